use Rattle.share_index.proofs.Indexing.{listed-places}
use Rattle.share_index.proofs.ShareIndex.place_at.Goals as goal

pub returns-in-Some-clause-each : goal.returns-in-Some-clause-each
returns-in-Some-clause-each c = rw (← c.self.view_is) (listed-places c.self.inside.places.kept c.self.inside.places.slots c.at.ensures.each)

pub returns-in-None-clause-each : goal.returns-in-None-clause-each
returns-in-None-clause-each c = rw (← c.self.view_is) (listed-places c.self.inside.places.kept c.self.inside.places.slots c.at.ensures.each)

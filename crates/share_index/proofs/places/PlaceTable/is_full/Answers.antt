use Rattle.share_index.proofs.Placing.{full-is, open-is}
use Rattle.share_index.proofs.places.PlaceTable.is_full.Goals as goal

pub returns-clause-full : goal.returns-clause-full
returns-clause-full c = rw (← c.self.view_is) (full-is c.self.inside.table c.self.inside.ownerless c.self.invariant c.spare.result c.spare.ensures)

pub returns-clause-open : goal.returns-clause-open
returns-clause-open c = rw (← c.self.view_is) (open-is c.self.inside.table c.self.inside.ownerless c.self.invariant c.spare.result c.spare.ensures)

use Rattle.replay_core.proofs.Clouds.{empty_stands, prepares_still}
use Rattle.replay_core.proofs.opening.empty_area.Goals as goal

pub returns-in-Ok-eq0-clause-prepares : goal.returns-in-Ok-eq0-clause-prepares
returns-in-Ok-eq0-clause-prepares g c = λ header.
    prepares_still (empty_stands c.law_of_no_commands.ensures.unbegun c.law_of_no_commands.ensures.stands) header (g.V.Shelf.cloud_at c.args.shelf.now) (g.V.Shelf.cloud_at c.len.new.self) c.args.cloud.0 _ _ c.len.ensures.call c.len.ensures.stays

pub returns-in-Ok-clause-prepares : goal.returns-in-Ok-clause-prepares
returns-in-Ok-clause-prepares g c = λ header.
    prepares_still (empty_stands c.law_of_no_commands.ensures.unbegun c.law_of_no_commands.ensures.stands) header (g.V.Shelf.cloud_at c.args.shelf.now) (g.V.Shelf.cloud_at c.len.new.self) c.args.cloud.0 _ _ c.len.ensures.call c.len.ensures.stays

pub returns-in-Err-clause-prepares : goal.returns-in-Err-clause-prepares
returns-in-Err-clause-prepares g c = λ header.
    prepares_still (empty_stands c.law_of_no_commands.ensures.unbegun c.law_of_no_commands.ensures.stands) header (g.V.Shelf.cloud_at c.args.shelf.now) (g.V.Shelf.cloud_at c.len.new.self) c.args.cloud.0 _ _ c.len.ensures.call c.len.ensures.stays

use Rattle.std.proofs.Common.{◌≡◌, inl, refl}
use Rattle.fresh_checkpoints.proofs.CdEdges.Moments.{started}
use Rattle.store_migration.proofs.Answering.{never_no_memory, kept_counts, no_call}
use Rattle.store_migration.proofs.migrating.migrate.Goals as goal

pub returns-in-Err-clause-any_moment : goal.returns-in-Err-clause-any_moment
returns-in-Err-clause-any_moment g c list may =
    started (g.V.Shelf.cloud_at c.args.shelf.now c.args.cloud.0) _ (λ image left. inl (may.each image left).stands)

pub returns-in-Ok-clause-undone : goal.returns-in-Ok-clause-undone
returns-in-Ok-clause-undone g c = never_no_memory c.migrate_with.result _ c.migrate_with.ensures.memory

pub returns-in-Err-clause-left : goal.returns-in-Err-clause-left
returns-in-Err-clause-left g c told = started (g.V.Shelf.cloud_at c.args.shelf.now c.args.cloud.0) _ (λ image left. left)

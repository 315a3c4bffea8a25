use Rattle.std.proofs.Common.{length, arith}
use Rattle.cloud_store.proofs.Keeping.{has_room, far_ends}
use Rattle.cloud_store.proofs.store.CloudStore.stage_recipe.Goals as goal

pub returns-clause-never_full : goal.returns-clause-never_full
returns-clause-never_full c at_end meet =
    let store = c.args.self.now in let far = far_ends store c.requires.settled at_end in let end = far.1 in
    has_room store store.disk.recipes (length c.args.recipe.now) store.memory.recipes_end c.stage_recipe.result _ _ c.requires.settled.recipes_limit meet.recipes (omega (arith, end)) c.requires.room c.stage_recipe.ensures.answer

use Rattle.server_commands.specs.ContainerLog.States.{State}
use Rattle.server_commands.specs.CloudDisk.Disk.{Disk}
use Rattle.server_requests.proofs.Readings.{reads_recipes, lent_back}
use Rattle.server_requests.proofs.fetching.recipe_on_disk.Goals as goal

pub returns-clause-untouched : goal.returns-clause-untouched
returns-clause-untouched g c =
    let put : State → Disk = λ (s : State). record c.args.disk.now { recipes = s } in
    lent_back c.recipe.result _ _ _ put c.args.disk.now.recipes c.recipes_mut.result.now c.recipe.new.log c.recipes_mut.ensures.value c.recipe.ensures.untouched

pub returns-clause-disk : goal.returns-clause-disk
returns-clause-disk g c =
    reads_recipes c.args.disk.now c.recipes_mut.result.now c.recipe.new.log _ _ c.recipes_mut.ensures.value c.recipe.ensures.stays c.recipe.ensures.log

use Rattle.std.proofs.Common.{ℕ}
use Rattle.std.specs.Prelude.{Option}
use Rattle.record_laws.specs.FileIndex.key.Entry.{Entry}
use Rattle.record_laws.specs.FileIndex.key.FileKey.{FileKey}
use Rattle.blob_copy.specs.Copies.{entry_blob}
use Rattle.blob_copy.specs.Runs.{CopiesTo}
use Rattle.blob_copy.proofs.RecipesCopied.{recipes_within, recipes_stop, recipes_step}
use Rattle.blob_copy.proofs.steps.step_recipes.Goals as goal

pub copy_recipes_on_disk-requires-clause-within : goal.copy_recipes_on_disk-requires-clause-within
copy_recipes_on_disk-requires-clause-within g c =
    recipes_within c.args.store.now c.requires.settled c.requires.open c.requires.each c.args.copying.now c.requires.laid

pub returns-in-Ok-clause-step : goal.returns-in-Ok-clause-step
returns-in-Ok-clause-step g c =
    let s = c.args.store.now in
    recipes_step s c.requires.settled c.requires.open c.requires.each c.args.copying.now c.requires.laid
    (g.V.Shelf.cloud_at c.args.shelf.now s.header.cloud.0) (g.V.Shelf.cloud_at c.copy_recipes_on_disk.new.shelf s.header.cloud.0) c.copy_recipes_on_disk.new.disk
    c.copy_recipes_on_disk.ensures.same c.copy_recipes_on_disk.ensures.torn c.copy_recipes_on_disk.ensures.call.told c.in-Ok.slot c.in-Ok.ensures.copied

pub returns-in-Err-clause-step : goal.returns-in-Err-clause-step
returns-in-Err-clause-step g c =
    let s = c.args.store.now in
    recipes_stop s c.requires.settled c.requires.open c.requires.each c.args.copying.now c.requires.laid
    (g.V.Shelf.cloud_at c.args.shelf.now s.header.cloud.0) (g.V.Shelf.cloud_at c.copy_recipes_on_disk.new.shelf s.header.cloud.0) c.copy_recipes_on_disk.new.disk
    c.copy_recipes_on_disk.ensures.same c.copy_recipes_on_disk.ensures.torn c.shut_after.new.disk c.in-Err.error c.shut_after.ensures
    (λ (to : ℕ). CopiesTo (λ (e : Option (FileKey × Entry)). e) entry_blob s.memory.files.slots c.args.copying.now.file_slot to s.disk.recipes c.copy_recipes_on_disk.new.disk.recipes
    (g.V.Shelf.cloud_at c.args.shelf.now s.header.cloud.0) (g.V.Shelf.cloud_at c.copy_recipes_on_disk.new.shelf s.header.cloud.0))
    c.in-Err.ensures.copied

use Rattle.std.proofs.Common.{◌≡◌, refl}
use Rattle.server_commands.specs.FileIndex.Files.{key_of}
use Rattle.server_commands.specs.Messages.request.Request.TheVariants as requests
use Rattle.server_commands.specs.ServerReads.CloudMemory.Rooms.{memory_of}
use Rattle.server_commands.specs.ServerReads.Found.{AreEntryBytes, HasNone, IsFoundRecipe}
use Rattle.server_commands.proofs.ServerReads.Plain.{recipe_plain}
use Rattle.server_commands.proofs.ServerReads.Rotting.{recipe_rotten}
use Rattle.server_requests.proofs.Contents.{gives_plain, missing_leaves, is_of_entry, recipe_by}
use Rattle.server_requests.proofs.Readings.{ready_after, was_read, was_failed}
use Rattle.server_requests.proofs.fetching.send_recipe.Goals as goal

pub returns-in-Ok-clause-does : goal.returns-in-Ok-clause-does
returns-in-Ok-clause-does g c =
    let old = c.args.store.now in let at = g.V.Shelf.cloud_at in let faults = g.V.Shelf.faults in
    let new = c.recipe_on_disk.new in let e = c.in-Ok.ensures in
    let m = memory_of old.memory in
    let key = key_of c.args.user.0 c.args.tag.now.0 c.args.version.0 in
    let found = IsFoundRecipe (at c.args.shelf.now old.header.cloud.0) m key in
    let request = requests.GetRecipe c.args.user c.args.tag.now c.args.version in
    was_read (new.shelf ≡ c.args.shelf.now) old new.disk (at c.args.shelf.now) (at new.shelf) (faults c.args.shelf.now) (faults new.shelf) request new.reply
    c.requires.ready e.disk e.stays e.call e.uncounted (λ list. refl)
    (λ list chain serves. let known = serves.known in e.value known.on.read.told known.on.recipes.agrees old.header.shape list known.on.read.sound known.remembers known.stand)
    (λ named other is. recipe_rotten (AreEntryBytes m key) (HasNone m key) found new.reply named other e.kind is)
    (λ answer leaves is. missing_leaves new.reply ((new.shelf ≡ c.args.shelf.now) × (new.disk ≡ old.disk)) e.untouched answer leaves is)
    (gives_plain old.header.shape request new.reply _ e.kind (recipe_plain c.args.user c.args.tag.now c.args.version (AreEntryBytes m key) (HasNone m key) found))
    (λ answer adds. adds)

pub returns-in-Ok-clause-hashed : goal.returns-in-Ok-clause-hashed
returns-in-Ok-clause-hashed g c = λ answer is.
    is_of_entry c.recipe_on_disk.new.reply (memory_of c.args.store.now.memory) (key_of c.args.user.0 c.args.tag.now.0 c.args.version.0) c.in-Ok.ensures.hashed answer is

pub shut-requires : goal.shut-requires
shut-requires g c = record { settled = (ready_after c.args.store.now c.recipe_on_disk.new.disk _ _ c.in-Err.ensures.disk c.requires.ready).settled }

pub returns-in-Err-clause-does : goal.returns-in-Err-clause-does
returns-in-Err-clause-does g c =
    let old = c.args.store.now in let at = g.V.Shelf.cloud_at in let faults = g.V.Shelf.faults in
    let new = c.recipe_on_disk.new in let e = c.in-Err.ensures in
    was_failed (new.shelf ≡ c.args.shelf.now) old new.disk (at c.args.shelf.now) (at new.shelf) (faults c.args.shelf.now) (faults new.shelf)
    (requests.GetRecipe c.args.user c.args.tag.now c.args.version) new.reply
    c.requires.ready e.disk e.stays e.call c.shut.new.self e.failed c.shut.ensures.same c.shut.ensures.settled c.shut.ensures.shut

pub returns-in-Ok-clause-says : goal.returns-in-Ok-clause-says
returns-in-Ok-clause-says g c =
    recipe_by (g.V.Shelf.cloud_at c.args.shelf.now c.args.store.now.header.cloud.0) (memory_of c.args.store.now.memory) (key_of c.args.user.0 c.args.tag.now.0 c.args.version.0)
    c.recipe_on_disk.new.reply c.in-Ok.ensures.kind

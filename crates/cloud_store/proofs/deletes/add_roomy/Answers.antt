use Rattle.std.proofs.Common.{[], ◌∷◌, ◌++◌, sym, ap, ◌∙◌, subst}
use Rattle.checkpoints.specs.FileIndex.Files.{key_of}
use Rattle.checkpoints.specs.RecordBody.Spelling as bodies
use Rattle.checkpoints.specs.UserDedup.Requests.{fps_of}
use Rattle.checkpoints.specs.UserDedup.command.Command.TheVariants as asked
use Rattle.checkpoints.specs.CloudAreas.Adding.{with_record}
use Rattle.checkpoints.specs.CloudMemory.Fitting.{FitsRecords}
use Rattle.checkpoints.specs.CloudMemory.Rooms.{memory_of}
use Rattle.checkpoints.proofs.MemoryProofs.Fitting as fitting
use Rattle.cloud_opening.specs.Roomy.{IsRoomy}
use Rattle.cloud_opening.proofs.Spends.{delete_roomy}
use Rattle.cloud_store.specs.declared.store.CloudStore.{CloudStore}
use Rattle.cloud_store.specs.Store.{Serves}
use Rattle.cloud_store.proofs.Fields.{delete_fits}
use Rattle.cloud_store.proofs.Moving.{all_ok}
use Rattle.cloud_store.proofs.Next.{prepared_next, served_next}
use Rattle.cloud_store.proofs.Stepping.{delete_next}
use Rattle.cloud_store.proofs.deletes.add_roomy.Goals as goal

pub add_record-requires-clause-settled : goal.add_record-requires-clause-settled
add_record-requires-clause-settled g c =
    let store = c.args.store.now in let m = memory_of store.memory in let settled = c.requires.settled in
    let names = fps_of store.header.shape c.args.recipe.now in
    record {
      header = settled.header;
      format = settled.format;
      rooms = c.forget.ensures.rooms store.header.rooms settled.rooms;
      fit = λ at_end. subst FitsRecords (sym c.forget.ensures.taken) (fitting.delete_fits names c.args.user (key_of c.args.user.0 c.args.tag.0 c.args.version.0) m (settled.fit c.requires.open));
      roomy = λ at_end. subst (IsRoomy store.header.rooms store.region) (sym c.forget.ensures.taken) (delete_roomy store.header.rooms store.region m names c.args.user (key_of c.args.user.0 c.args.tag.0 c.args.version.0) (settled.roomy c.requires.open));
      disk = settled.disk;
      shares_limit = settled.shares_limit;
      recipes_limit = settled.recipes_limit;
      region = settled.region;
    }

pub returns-clause-any_moment : goal.returns-clause-any_moment
returns-clause-any_moment g c list chain entry p =
    let store = c.args.store.now in let header = store.header in let number = header.cloud.0 in let m = memory_of store.memory in
    let user = c.args.user in let tag = c.args.tag in let version = c.args.version in let new = c.forget.new.memory in
    let c0 = g.V.Shelf.cloud_at c.args.shelf.now number in
    let s = p.serves in let k = s.known in
    let command = asked.Delete user tag version in let body = bodies.Delete (record { user = user; tag = tag; version = version }) in
    let fits = delete_fits header.shape number list user tag version p.sound in
    let names = fps_of header.shape c.args.recipe.now in
    let next = delete_next header list chain store.commands store.region store.memory new store.disk c0 s user tag version names p.sound fits (c.forget.ensures.remembers number list entry k.on.read.sound k.remembers p.there p.recipe_is) c.forget.ensures.taken in
    let ready = prepared_next header list chain store.commands store.region store.memory new store.disk store.disk c0 c0 s command body [] next c.law_of_laying.ensures.room c.write_delete.new.self (record { fits = fits; spelled = c.write_delete.ensures }) p.shares p.recipes in
    c.add_record.ensures.any_moment list chain command body [] ready

pub returns-clause-added : goal.returns-clause-added
returns-clause-added g c list chain entry p =
    let store = c.args.store.now in let header = store.header in let number = header.cloud.0 in let m = memory_of store.memory in
    let user = c.args.user in let tag = c.args.tag in let version = c.args.version in let new = c.forget.new.memory in
    let c0 = g.V.Shelf.cloud_at c.args.shelf.now number in
    let s = p.serves in let k = s.known in
    let command = asked.Delete user tag version in let body = bodies.Delete (record { user = user; tag = tag; version = version }) in
    let fits = delete_fits header.shape number list user tag version p.sound in
    let names = fps_of header.shape c.args.recipe.now in
    let next = delete_next header list chain store.commands store.region store.memory new store.disk c0 s user tag version names p.sound fits (c.forget.ensures.remembers number list entry k.on.read.sound k.remembers p.there p.recipe_is) c.forget.ensures.taken in
    let ready = prepared_next header list chain store.commands store.region store.memory new store.disk store.disk c0 c0 s command body [] next c.law_of_laying.ensures.room c.write_delete.new.self (record { fits = fits; spelled = c.write_delete.ensures }) p.shares p.recipes in
    let c2 = g.V.Shelf.cloud_at c.add_record.new.shelf number in
    all_ok c.add_record.result (c.add_record.ensures.added list chain command body [] ready) c.add_record.ensures.ends c.add_record.ensures.commands
    (λ on ends count.
    subst (λ (x : CloudStore). Serves (list ++ command ∷ []) (with_record chain body []) x c2) (sym c.add_record.ensures.same)
    (served_next header list chain store.commands store.region store.memory new store.disk c.add_record.new.store.disk c0 c2 s command body [] next c.requires.settled.header.rooms c.requires.settled.format c.requires.settled.rooms.users
    c.write_delete.new.self c.add_record.new.store.commands count p.shares p.recipes on.0 on.1 ends))

pub returns-clause-taken : goal.returns-clause-taken
returns-clause-taken g c = ap (λ (x : CloudStore). memory_of x.memory) c.add_record.ensures.same ∙ c.forget.ensures.taken

use Rattle.std.proofs.Common.{List, [], ◌∷◌, ◌++◌, sym, ap, ◌∙◌, subst}
use Rattle.checkpoints.specs.RecordBody.body.PutItem.{PutItem}
use Rattle.checkpoints.specs.RecordBody.Spelling as bodies
use Rattle.checkpoints.specs.RecordBody.Spelling.{body_bytes}
use Rattle.checkpoints.specs.UserDedup.command.Command.TheVariants as asked
use Rattle.checkpoints.specs.CloudAreas.Adding.{with_record}
use Rattle.checkpoints.specs.CloudAreas.Chains.{IsRecord}
use Rattle.checkpoints.specs.CloudMemory.Fitting.{FitsRecords}
use Rattle.checkpoints.specs.CloudMemory.Rooms.{memory_of}
use Rattle.checkpoints.specs.CloudMemory.Steps.{with_put}
use Rattle.checkpoints.proofs.MemoryProofs.Fitting.{news_fit}
use Rattle.cloud_opening.specs.Roomy.{IsRoomy}
use Rattle.cloud_opening.proofs.Spends.{put_roomy}
use Rattle.cloud_store.specs.declared.store.CloudStore.{CloudStore}
use Rattle.cloud_store.specs.Adding.{put_record}
use Rattle.cloud_store.specs.Store.{Serves}
use Rattle.cloud_store.proofs.Fields.{user_fits, are_long}
use Rattle.cloud_store.proofs.Moving.{all_ok}
use Rattle.cloud_store.proofs.Next.{prepared_next, served_next}
use Rattle.cloud_store.proofs.Putting.{put_fits}
use Rattle.cloud_store.proofs.Stepping.{put_next}
use Rattle.cloud_store.proofs.puts.add_roomy.Goals as goal

pub add_record-requires-clause-settled : goal.add_record-requires-clause-settled
add_record-requires-clause-settled g c =
    let store = c.args.store.now in let m = memory_of store.memory in let user = c.args.user in let news = c.args.news.now in let settled = c.requires.settled in
    let taken = c.in-Ok.ensures.taken ∙ ap (λ (items : List PutItem). with_put user items m) c.in-Ok.ensures.parts in
    record {
      header = settled.header;
      format = settled.format;
      rooms = c.in-Ok.ensures.rooms;
      fit = λ at_end. subst FitsRecords (sym taken) (news_fit user news m c.requires.lens (settled.fit c.requires.open));
      roomy = λ at_end. subst (IsRoomy store.header.rooms store.region) (sym taken) (put_roomy store.header.rooms store.region m user news settled.rooms.users c.requires.some c.requires.new c.requires.room (settled.roomy c.requires.open));
      disk = settled.disk;
      shares_limit = settled.shares_limit;
      recipes_limit = settled.recipes_limit;
      region = settled.region;
    }

pub returns-clause-any_moment : goal.returns-clause-any_moment
returns-clause-any_moment g c list chain strings p =
    let store = c.args.store.now in let header = store.header in let number = header.cloud.0 in let m = memory_of store.memory in
    let user = c.args.user in let news = c.args.news.now in let new = c.add_put.new.self in
    let c0 = g.V.Shelf.cloud_at c.args.shelf.now number in
    let s = p.serves in let k = s.known in
    let command = asked.Put user strings in let body = put_record store user news in
    let fits = put_fits user m news (user_fits header.shape number list command p.sound) c.requires.some c.requires.few (are_long news strings p.are_of) c.requires.lens c.requires.end in
    let items_are = c.in-Ok.ensures.parts in
    let is_record = subst (λ (items : List PutItem). IsRecord store.region chain.records list command (bodies.Put user items) []) items_are (c.in-Ok.ensures.is_record header.shape list strings store.region chain.records k.remembers p.are_of s.ends) in
    let taken = c.in-Ok.ensures.taken ∙ ap (λ (items : List PutItem). with_put user items m) items_are in
    let room = c.in-Ok.ensures.full_list header.shape number list strings k.on.read.sound k.remembers p.are_of k.within in
    let next = put_next header list chain store.commands store.region store.memory new store.disk c0 s user news strings p.sound p.are_of c.requires.new room fits (c.in-Ok.ensures.remembers header.shape number list strings k.on.read.sound k.remembers p.are_of) is_record taken in
    let spelled = c.write_put.ensures ∙ ap (λ (items : List PutItem). body_bytes (bodies.Put user items)) items_are in
    let ready = prepared_next header list chain store.commands store.region store.memory new store.disk store.disk c0 c0 s command body [] next c.law_of_laying.ensures.room c.write_put.new.buffer (record { fits = fits; spelled = spelled }) p.shares p.recipes in
    c.add_record.ensures.any_moment list chain command body [] ready

pub returns-clause-added : goal.returns-clause-added
returns-clause-added g c list chain strings p =
    let store = c.args.store.now in let header = store.header in let number = header.cloud.0 in let m = memory_of store.memory in
    let user = c.args.user in let news = c.args.news.now in let new = c.add_put.new.self in
    let c0 = g.V.Shelf.cloud_at c.args.shelf.now number in
    let s = p.serves in let k = s.known in
    let command = asked.Put user strings in let body = put_record store user news in
    let fits = put_fits user m news (user_fits header.shape number list command p.sound) c.requires.some c.requires.few (are_long news strings p.are_of) c.requires.lens c.requires.end in
    let items_are = c.in-Ok.ensures.parts in
    let is_record = subst (λ (items : List PutItem). IsRecord store.region chain.records list command (bodies.Put user items) []) items_are (c.in-Ok.ensures.is_record header.shape list strings store.region chain.records k.remembers p.are_of s.ends) in
    let taken = c.in-Ok.ensures.taken ∙ ap (λ (items : List PutItem). with_put user items m) items_are in
    let room = c.in-Ok.ensures.full_list header.shape number list strings k.on.read.sound k.remembers p.are_of k.within in
    let next = put_next header list chain store.commands store.region store.memory new store.disk c0 s user news strings p.sound p.are_of c.requires.new room fits (c.in-Ok.ensures.remembers header.shape number list strings k.on.read.sound k.remembers p.are_of) is_record taken in
    let spelled = c.write_put.ensures ∙ ap (λ (items : List PutItem). body_bytes (bodies.Put user items)) items_are in
    let ready = prepared_next header list chain store.commands store.region store.memory new store.disk store.disk c0 c0 s command body [] next c.law_of_laying.ensures.room c.write_put.new.buffer (record { fits = fits; spelled = spelled }) p.shares p.recipes in
    let c2 = g.V.Shelf.cloud_at c.add_record.new.shelf number in
    all_ok c.add_record.result (c.add_record.ensures.added list chain command body [] ready) c.add_record.ensures.ends c.add_record.ensures.commands
    (λ on ends count.
    subst (λ (x : CloudStore). Serves (list ++ command ∷ []) (with_record chain body []) x c2) (sym c.add_record.ensures.same)
    (served_next header list chain store.commands store.region store.memory new store.disk c.add_record.new.store.disk c0 c2 s command body [] next c.requires.settled.header.rooms c.requires.settled.format c.requires.settled.rooms.users
    c.write_put.new.buffer c.add_record.new.store.commands count p.shares p.recipes on.0 on.1 ends))

pub returns-clause-taken : goal.returns-clause-taken
returns-clause-taken g c =
    let m = memory_of c.args.store.now.memory in let user = c.args.user in
    ap (λ (x : CloudStore). memory_of x.memory) c.add_record.ensures.same ∙ c.in-Ok.ensures.taken ∙ ap (λ (items : List PutItem). with_put user items m) c.in-Ok.ensures.parts

use Rattle.std.proofs.Common.{◌≤◌, [], ◌∷◌, ◌++◌, refl, sym, ap, ◌∙◌, subst, arith}
use Rattle.checkpoints.specs.ContainerLog.Laying.{Placed}
use Rattle.checkpoints.specs.ContainerLog.Places.{container_len, place_of}
use Rattle.checkpoints.specs.RecordBody.body.CommitBody.{CommitBody}
use Rattle.checkpoints.specs.RecordBody.Spelling as bodies
use Rattle.checkpoints.specs.RecordBody.Spelling.{body_bytes}
use Rattle.checkpoints.specs.UserDedup.Owning.{fps_in}
use Rattle.checkpoints.specs.UserDedup.command.Command.TheVariants as asked
use Rattle.checkpoints.specs.CloudAreas.Adding.{with_record}
use Rattle.checkpoints.specs.CloudAreas.Chains.{IsRecord}
use Rattle.checkpoints.specs.CloudMemory.Fitting.{FitsRecords}
use Rattle.checkpoints.specs.CloudMemory.Rooms.{memory_of}
use Rattle.checkpoints.specs.CloudMemory.Steps.{with_commit}
use Rattle.checkpoints.proofs.MemoryProofs.Fitting as fitting
use Rattle.cloud_opening.specs.Roomy.{IsRoomy}
use Rattle.cloud_opening.proofs.Spends.{commit_roomy}
use Rattle.cloud_store.specs.declared.store.CloudStore.{CloudStore}
use Rattle.cloud_store.specs.Adding.{commit_body}
use Rattle.cloud_store.specs.Store.{Serves}
use Rattle.cloud_store.proofs.Fields.{commit_fits}
use Rattle.cloud_store.proofs.Moving.{all_ok}
use Rattle.cloud_store.proofs.Next.{prepared_next, served_next}
use Rattle.cloud_store.proofs.Stepping.{staged_small, commit_next}
use Rattle.cloud_store.proofs.commits.add_roomy.Goals as goal

pub add_record-requires-clause-settled : goal.add_record-requires-clause-settled
add_record-requires-clause-settled g c =
    let store = c.args.store.now in let m = memory_of store.memory in let names = fps_in c.args.recipe.now.items in let settled = c.requires.settled in
    let body = commit_body store c.args.user c.args.tag c.args.version c.args.fp c.args.len in
    let taken = c.in-Ok.ensures.taken ∙ ap (λ (b : CommitBody). with_commit names b m) c.in-Ok.ensures.body in
    record {
      header = settled.header;
      format = settled.format;
      rooms = c.in-Ok.ensures.rooms;
      fit = λ at_end. subst FitsRecords (sym taken) (fitting.commit_fits names body m c.requires.some c.requires.short c.requires.owned (settled.fit c.requires.open));
      roomy = λ at_end. subst (IsRoomy store.header.rooms store.region) (sym taken) (commit_roomy store.header.rooms store.region m names body settled.rooms.users c.requires.some refl c.requires.room (settled.roomy c.requires.open));
      disk = settled.disk;
      shares_limit = settled.shares_limit;
      recipes_limit = settled.recipes_limit;
      region = settled.region;
    }

pub returns-clause-any_moment : goal.returns-clause-any_moment
returns-clause-any_moment g c list chain bytes p =
    let store = c.args.store.now in let header = store.header in let number = header.cloud.0 in let m = memory_of store.memory in
    let user = c.args.user in let tag = c.args.tag in let version = c.args.version in let fp = c.args.fp in let len = c.args.len in
    let names = fps_in c.args.recipe.now.items in let new = c.add_commit.new.self in
    let c0 = g.V.Shelf.cloud_at c.args.shelf.now number in
    let s = p.serves in let k = s.known in
    let command = asked.Commit user tag version bytes in let body = commit_body store user tag version fp len in
    let blob : Placed = record { place = place_of store.memory.recipes_end len; blob = bytes } in
    let small = staged_small store.disk.recipes blob p.recipes in
    let few : len ≤ container_len = omega (arith, small, p.len_is) in
    let fits = commit_fits header.shape number list user tag version bytes fp len store.memory.recipes_end p.sound p.fp_is c.requires.some few c.requires.end in
    let body_is = c.in-Ok.ensures.body in
    let is_record = subst (λ (b : CommitBody). IsRecord store.region chain.records list command (bodies.Commit b) (record { place = b.at; blob = bytes } ∷ [])) body_is (c.in-Ok.ensures.is_record list bytes store.region chain.records s.ends p.fp_is p.len_is) in
    let taken = c.in-Ok.ensures.taken ∙ ap (λ (b : CommitBody). with_commit names b m) body_is in
    let room = c.in-Ok.ensures.full_list header.shape number list bytes k.on.read.sound k.remembers k.within p.len_is in
    let next = commit_next header list chain store.commands store.region store.memory new store.disk c0 s user tag version fp len names bytes p.sound p.fp_is p.len_is room fits p.recipes (c.in-Ok.ensures.remembers header.shape list bytes k.remembers k.within p.fp_is p.len_is p.names_are) is_record taken in
    let spelled = c.write_commit.ensures ∙ ap (λ (b : CommitBody). body_bytes (bodies.Commit b)) body_is in
    let ready = prepared_next header list chain store.commands store.region store.memory new store.disk store.disk c0 c0 s command (bodies.Commit body) (blob ∷ []) next c.law_of_laying.ensures.room c.write_commit.new.self (record { fits = fits; spelled = spelled }) p.shares p.recipes in
    c.add_record.ensures.any_moment list chain command (bodies.Commit body) (blob ∷ []) ready

pub returns-clause-added : goal.returns-clause-added
returns-clause-added g c list chain bytes p =
    let store = c.args.store.now in let header = store.header in let number = header.cloud.0 in let m = memory_of store.memory in
    let user = c.args.user in let tag = c.args.tag in let version = c.args.version in let fp = c.args.fp in let len = c.args.len in
    let names = fps_in c.args.recipe.now.items in let new = c.add_commit.new.self in
    let c0 = g.V.Shelf.cloud_at c.args.shelf.now number in
    let s = p.serves in let k = s.known in
    let command = asked.Commit user tag version bytes in let body = commit_body store user tag version fp len in
    let blob : Placed = record { place = place_of store.memory.recipes_end len; blob = bytes } in
    let small = staged_small store.disk.recipes blob p.recipes in
    let few : len ≤ container_len = omega (arith, small, p.len_is) in
    let fits = commit_fits header.shape number list user tag version bytes fp len store.memory.recipes_end p.sound p.fp_is c.requires.some few c.requires.end in
    let body_is = c.in-Ok.ensures.body in
    let is_record = subst (λ (b : CommitBody). IsRecord store.region chain.records list command (bodies.Commit b) (record { place = b.at; blob = bytes } ∷ [])) body_is (c.in-Ok.ensures.is_record list bytes store.region chain.records s.ends p.fp_is p.len_is) in
    let taken = c.in-Ok.ensures.taken ∙ ap (λ (b : CommitBody). with_commit names b m) body_is in
    let room = c.in-Ok.ensures.full_list header.shape number list bytes k.on.read.sound k.remembers k.within p.len_is in
    let next = commit_next header list chain store.commands store.region store.memory new store.disk c0 s user tag version fp len names bytes p.sound p.fp_is p.len_is room fits p.recipes (c.in-Ok.ensures.remembers header.shape list bytes k.remembers k.within p.fp_is p.len_is p.names_are) is_record taken in
    let spelled = c.write_commit.ensures ∙ ap (λ (b : CommitBody). body_bytes (bodies.Commit b)) body_is in
    let ready = prepared_next header list chain store.commands store.region store.memory new store.disk store.disk c0 c0 s command (bodies.Commit body) (blob ∷ []) next c.law_of_laying.ensures.room c.write_commit.new.self (record { fits = fits; spelled = spelled }) p.shares p.recipes in
    let c2 = g.V.Shelf.cloud_at c.add_record.new.shelf number in
    all_ok c.add_record.result (c.add_record.ensures.added list chain command (bodies.Commit body) (blob ∷ []) ready) c.add_record.ensures.ends c.add_record.ensures.commands
    (λ on ends count.
    subst (λ (x : CloudStore). Serves (list ++ command ∷ []) (with_record chain (bodies.Commit body) (blob ∷ [])) x c2) (sym c.add_record.ensures.same)
    (served_next header list chain store.commands store.region store.memory new store.disk c.add_record.new.store.disk c0 c2 s command (bodies.Commit body) (blob ∷ []) next c.requires.settled.header.rooms c.requires.settled.format
    c.requires.settled.rooms.users c.write_commit.new.self c.add_record.new.store.commands count p.shares p.recipes on.0 on.1 ends))

pub returns-clause-taken : goal.returns-clause-taken
returns-clause-taken g c =
    let m = memory_of c.args.store.now.memory in let names = fps_in c.args.recipe.now.items in
    ap (λ (x : CloudStore). memory_of x.memory) c.add_record.ensures.same ∙ c.in-Ok.ensures.taken ∙ ap (λ (b : CommitBody). with_commit names b m) c.in-Ok.ensures.body

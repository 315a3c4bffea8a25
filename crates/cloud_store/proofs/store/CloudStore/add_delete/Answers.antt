use Rattle.std.proofs.Common.{◌≡◌, ℕ, [], ◌∷◌, ◌++◌, Err, sym, ap, subst, arith, ◌+◌, ◌∙◌, IsTrue}
use Rattle.std.specs.Prelude.{◌-◌, ◌^◌, min}
use Rattle.cloud_store.specs.Adding.{IsTooLong}
use Rattle.checkpoints.specs.CloudMemory.Steps.{without_entry}
use Rattle.checkpoints.specs.CloudMemory.Rooms.{memory_of}
use Rattle.checkpoints.specs.FileIndex.Files.{key_of}
use Rattle.checkpoints.specs.UserDedup.Requests.{fps_of}
use Rattle.checkpoints.specs.JournalStart.start.Header.{Header}
use Rattle.checkpoints.specs.RecordBody.Spelling as bodies
use Rattle.checkpoints.specs.RecordBody.Spelling.{body_bytes}
use Rattle.checkpoints.specs.UserDedup.command.Command.TheVariants as asked
use Rattle.checkpoints.specs.CloudAreas.Adding.{with_record}
use Rattle.checkpoints.specs.CloudAreas.Standing.{Chain}
use Rattle.checkpoints.specs.CloudDisk.Disk.{IsOn, KeepsOrAdds}
use Rattle.checkpoints.specs.declared.whole.Unsettled.{Unsettled}
use Rattle.checkpoints.specs.Known.{IfLong}
use Rattle.cloud_store.specs.declared.store.CloudStore.{CloudStore}
use Rattle.cloud_store.specs.Store.{Serves, FitsHalf, chain_with_room}
use Rattle.cloud_store.proofs.Rooming.{chain_next}
use Rattle.cloud_store.proofs.Next.{images_both, images_kept}
use Rattle.checkpoints.proofs.RecordBody.Spelled.{length-delete}
use Rattle.cloud_store.proofs.Fields.{delete_fits}
use Rattle.cloud_store.proofs.Moving.{delete_moved}
use Rattle.checkpoints.specs.CdEdges.Disk.{moment}
use Rattle.checkpoints.proofs.CdEdges.Moments.{told_on}
use Rattle.checkpoints.specs.ContainerLog.States as logs
use Rattle.checkpoints.specs.CloudDisk.Held.{flush_moments}
use Rattle.checkpoints.specs.CloudDisk.Disk.{KeepsDiskOrGrows as GrowsBy}
use Rattle.cloud_store.proofs.Growing.{grows_both, grown_both, DiskHasGrown, grows_sums}
use Rattle.cloud_store.proofs.store.CloudStore.add_delete.Goals as goal

pub returns-in-Err-Long-clause-never_long : goal.returns-in-Err-Long-clause-never_long
returns-in-Err-Long-clause-never_long g c =
    subst (λ (why : Unsettled). IfLong {A = Unit {0}} (Err why) ⊥) c.in-Err-Long.field-0-is (c.in-Err-Long.ensures.never_long (omega arith))

pub returns-in-Ok-add_roomy-clause-any_moment : goal.returns-in-Ok-add_roomy-clause-any_moment
returns-in-Ok-add_roomy-clause-any_moment g c list chain entry p =
    let store = c.args.self.now in let header = store.header in let number = header.cloud.0 in
    let user = c.args.user in let tag = c.args.tag in let version = c.args.version in let command = asked.Delete user tag version in
    let c0 = g.V.Shelf.cloud_at c.args.shelf.now number in
    let s = p.serves in let k = s.known in
    let mid = c.have_room.new.store in let keeps = c.in-Ok.ensures.same in
    let at = g.V.Shelf.cloud_at c.have_room.new.shelf in let later = g.V.Shelf.cloud_at c.add_roomy.new.shelf in
    let header_is : mid.header ≡ header = ap (λ (x : CloudStore). x.header) keeps.same in
    let d = chain_with_room store list chain 45 in let c1 = at mid.header.cloud.0 in
    let serves = subst (λ (h : Header). Serves list d mid (at h.cloud.0)) (sym header_is) (c.in-Ok.ensures.serves list chain s) in
    let moved = delete_moved list chain d store mid c0 c1 keeps serves user tag version entry c.args.recipe.now p in
    images_both header list command c0 (at number) (later number) (c.have_room.ensures.any_moment list chain s)
    (subst (λ (h : Header). KeepsOrAdds h list command (at h.cloud.0) (later h.cloud.0)) header_is (c.add_roomy.ensures.any_moment list d entry moved))

pub returns-in-Err-clause-any_moment : goal.returns-in-Err-clause-any_moment
returns-in-Err-clause-any_moment g c list chain entry p =
    let store = c.args.self.now in let header = store.header in let number = header.cloud.0 in
    let user = c.args.user in let tag = c.args.tag in let version = c.args.version in let command = asked.Delete user tag version in
    let c0 = g.V.Shelf.cloud_at c.args.shelf.now number in
    let s = p.serves in let k = s.known in
    let mid = c.have_room.new.store in let keeps = c.in-Ok.ensures.same in
    let at = g.V.Shelf.cloud_at c.have_room.new.shelf in let later = g.V.Shelf.cloud_at c.add_roomy.new.shelf in
    let header_is : mid.header ≡ header = ap (λ (x : CloudStore). x.header) keeps.same in
    let d = chain_with_room store list chain 45 in let c1 = at mid.header.cloud.0 in
    let serves = subst (λ (h : Header). Serves list d mid (at h.cloud.0)) (sym header_is) (c.in-Ok.ensures.serves list chain s) in
    let moved = delete_moved list chain d store mid c0 c1 keeps serves user tag version entry c.args.recipe.now p in
    images_both header list command c0 (at number) (later number) (c.have_room.ensures.any_moment list chain s)
    (subst (λ (h : Header). KeepsOrAdds h list command (at h.cloud.0) (later h.cloud.0)) header_is (c.add_roomy.ensures.any_moment list d entry moved))

pub returns-in-Ok-add_roomy-clause-added : goal.returns-in-Ok-add_roomy-clause-added
returns-in-Ok-add_roomy-clause-added g c list chain entry p =
    let store = c.args.self.now in let header = store.header in let number = header.cloud.0 in
    let user = c.args.user in let tag = c.args.tag in let version = c.args.version in let command = asked.Delete user tag version in
    let c0 = g.V.Shelf.cloud_at c.args.shelf.now number in
    let s = p.serves in let k = s.known in
    let mid = c.have_room.new.store in let keeps = c.in-Ok.ensures.same in
    let at = g.V.Shelf.cloud_at c.have_room.new.shelf in let later = g.V.Shelf.cloud_at c.add_roomy.new.shelf in
    let header_is : mid.header ≡ header = ap (λ (x : CloudStore). x.header) keeps.same in
    let d = chain_with_room store list chain 45 in let c1 = at mid.header.cloud.0 in
    let serves = subst (λ (h : Header). Serves list d mid (at h.cloud.0)) (sym header_is) (c.in-Ok.ensures.serves list chain s) in
    let moved = delete_moved list chain d store mid c0 c1 keeps serves user tag version entry c.args.recipe.now p in
    let len_is = sym (length-delete (record { user = user; tag = tag; version = version }) (delete_fits header.shape number list user tag version p.sound)) in
    let got = c.in-Ok-add_roomy.ensures.added list d entry moved in
    let here = subst (λ (h : Header). Serves (list ++ command ∷ []) (with_record d (bodies.Delete (record { user = user; tag = tag; version = version })) []) c.add_roomy.new.store (later h.cloud.0)) header_is got in
    let same = here in
    subst (λ (n : ℕ). Serves (list ++ command ∷ []) (with_record (chain_with_room store list chain n) (bodies.Delete (record { user = user; tag = tag; version = version })) []) c.add_roomy.new.store (later number)) len_is same

pub returns-in-Ok-add_roomy-clause-checkpoint_first : goal.returns-in-Ok-add_roomy-clause-checkpoint_first
returns-in-Ok-add_roomy-clause-checkpoint_first g c list chain entry p not =
    let store = c.args.self.now in let header = store.header in let number = header.cloud.0 in
    let user = c.args.user in let tag = c.args.tag in let version = c.args.version in let command = asked.Delete user tag version in
    let c0 = g.V.Shelf.cloud_at c.args.shelf.now number in
    let s = p.serves in let k = s.known in
    let mid = c.have_room.new.store in let keeps = c.in-Ok.ensures.same in
    let at = g.V.Shelf.cloud_at c.have_room.new.shelf in let later = g.V.Shelf.cloud_at c.add_roomy.new.shelf in
    let header_is : mid.header ≡ header = ap (λ (x : CloudStore). x.header) keeps.same in
    let d = chain_with_room store list chain 45 in let c1 = at mid.header.cloud.0 in
    let serves = subst (λ (h : Header). Serves list d mid (at h.cloud.0)) (sym header_is) (c.in-Ok.ensures.serves list chain s) in
    let moved = delete_moved list chain d store mid c0 c1 keeps serves user tag version entry c.args.recipe.now p in
    let len_is = sym (length-delete (record { user = user; tag = tag; version = version }) (delete_fits header.shape number list user tag version p.sound)) in
    let fresh = chain_next store list chain 45 (λ fits. not (subst (λ (n : ℕ). FitsHalf store n) len_is fits)) in
    record {
      at = at number;
      disk = mid.disk;
      on =
          subst (λ (e : Chain). IsOn header list e mid.disk (at number)) fresh
          (subst (λ (h : Header). IsOn h list d mid.disk (at number)) header_is (c.in-Ok.ensures.serves list chain s).known.on);
      until = c.have_room.ensures.only_journal list chain s;
      since =
          subst (λ (h : Header). KeepsOrAdds h list command (at h.cloud.0) (later h.cloud.0)) header_is (c.add_roomy.ensures.any_moment list d entry moved);
    }

pub returns-in-Ok-add_roomy-clause-taken : goal.returns-in-Ok-add_roomy-clause-taken
returns-in-Ok-add_roomy-clause-taken g c =
    c.add_roomy.ensures.taken
    ∙ ap (λ (x : CloudStore). without_entry (fps_of x.header.shape c.args.recipe.now) c.args.user (key_of c.args.user.0 c.args.tag.0 c.args.version.0) (memory_of x.memory)) c.in-Ok.ensures.same.same

pub returns-in-Ok-add_roomy-clause-number : goal.returns-in-Ok-add_roomy-clause-number
returns-in-Ok-add_roomy-clause-number g c =
    c.in-Ok-add_roomy.ensures.number ∙ ap (λ (x : CloudStore). min (x.commands + 1) (2 ^ 64 - 1)) c.in-Ok.ensures.same.same

pub returns-in-Err-Long-clause-long : goal.returns-in-Err-Long-clause-long
returns-in-Err-Long-clause-long g c =
    subst (λ (why : Unsettled). IfLong {A = Unit {0}} (Err why) (IsTooLong c.args.self.now 45)) c.in-Err-Long.field-0-is c.in-Err-Long.ensures.long

pub returns-in-Ok-add_roomy-clause-chain : goal.returns-in-Ok-add_roomy-clause-chain
returns-in-Ok-add_roomy-clause-chain g c =
    let store = c.args.self.now in let header = store.header in let number = header.cloud.0 in
    let c0 = g.V.Shelf.cloud_at c.args.shelf.now number in
    let mid = c.have_room.new.store in let keeps = c.in-Ok.ensures.same in
    let at = g.V.Shelf.cloud_at c.have_room.new.shelf in let later = g.V.Shelf.cloud_at c.add_roomy.new.shelf in
    let header_is : mid.header ≡ header = ap (λ (x : CloudStore). x.header) keeps.same in
    let grows = subst (λ (x : CloudStore). GrowsBy mid.disk (body_bytes (bodies.Delete (record { user = c.args.user; tag = c.args.tag; version = c.args.version }))) (at number) (later number)) keeps.same
    (subst (λ (h : Header). GrowsBy mid.disk (body_bytes (bodies.Delete (record { user = c.args.user; tag = c.args.tag; version = c.args.version }))) (at h.cloud.0) (later h.cloud.0)) header_is c.add_roomy.ensures.chain) in
    grows_both store mid (body_bytes (bodies.Delete (record { user = c.args.user; tag = c.args.tag; version = c.args.version }))) c0 (at number) (later number) keeps.shares keeps.recipes c.requires.settled.disk.shares c.requires.settled.disk.recipes
    (told_on c0 (at number) c.have_room.ensures.call.told) c.have_room.ensures.chain grows c.in-Ok.ensures.made

pub returns-in-Err-clause-chain : goal.returns-in-Err-clause-chain
returns-in-Err-clause-chain g c =
    let store = c.args.self.now in let header = store.header in let number = header.cloud.0 in
    let c0 = g.V.Shelf.cloud_at c.args.shelf.now number in
    let mid = c.have_room.new.store in let keeps = c.in-Ok.ensures.same in
    let at = g.V.Shelf.cloud_at c.have_room.new.shelf in let later = g.V.Shelf.cloud_at c.add_roomy.new.shelf in
    let header_is : mid.header ≡ header = ap (λ (x : CloudStore). x.header) keeps.same in
    let grows = subst (λ (x : CloudStore). GrowsBy mid.disk (body_bytes (bodies.Delete (record { user = c.args.user; tag = c.args.tag; version = c.args.version }))) (at number) (later number)) keeps.same
    (subst (λ (h : Header). GrowsBy mid.disk (body_bytes (bodies.Delete (record { user = c.args.user; tag = c.args.tag; version = c.args.version }))) (at h.cloud.0) (later h.cloud.0)) header_is c.add_roomy.ensures.chain) in
    grows_both store mid (body_bytes (bodies.Delete (record { user = c.args.user; tag = c.args.tag; version = c.args.version }))) c0 (at number) (later number) keeps.shares keeps.recipes c.requires.settled.disk.shares c.requires.settled.disk.recipes
    (told_on c0 (at number) c.have_room.ensures.call.told) c.have_room.ensures.chain grows c.in-Ok.ensures.made

pub returns-in-Err-Long-clause-chain : goal.returns-in-Err-Long-clause-chain
returns-in-Err-Long-clause-chain g c =
    let store = c.args.self.now in let number = store.header.cloud.0 in
    grows_sums store (body_bytes (bodies.Delete (record { user = c.args.user; tag = c.args.tag; version = c.args.version }))) (g.V.Shelf.cloud_at c.args.shelf.now number) (g.V.Shelf.cloud_at c.have_room.new.shelf number) c.have_room.ensures.chain

pub returns-in-Err-Failed-clause-chain : goal.returns-in-Err-Failed-clause-chain
returns-in-Err-Failed-clause-chain g c =
    let store = c.args.self.now in let number = store.header.cloud.0 in
    grows_sums store (body_bytes (bodies.Delete (record { user = c.args.user; tag = c.args.tag; version = c.args.version }))) (g.V.Shelf.cloud_at c.args.shelf.now number) (g.V.Shelf.cloud_at c.have_room.new.shelf number) c.have_room.ensures.chain

pub returns-in-Ok-add_roomy-clause-ends : goal.returns-in-Ok-add_roomy-clause-ends
returns-in-Ok-add_roomy-clause-ends g c =
    let keeps = c.in-Ok.ensures.same in let ends = c.in-Ok-add_roomy.ensures.ends in
    record { shares = ends.shares ∙ ap logs.staged_end keeps.shares; recipes = ends.recipes ∙ ap logs.staged_end keeps.recipes }

pub returns-in-Ok-add_roomy-clause-moments : goal.returns-in-Ok-add_roomy-clause-moments
returns-in-Ok-add_roomy-clause-moments g c told fits =
    let number = c.args.self.now.header.cloud.0 in let later = g.V.Shelf.cloud_at c.add_roomy.new.shelf in let disk = c.args.self.now.disk in
    let at = g.V.Shelf.cloud_at c.have_room.new.shelf in
    let still = c.have_room.ensures.untouched (fits) in
    let run = subst (λ (x : CloudStore). IsTrue (at x.header.cloud.0).told → moment (later x.header.cloud.0) ≡ moment (at x.header.cloud.0) + flush_moments x.disk.shares + flush_moments x.disk.recipes + 4) still.0
    c.in-Ok-add_roomy.ensures.moments in
    subst (λ sh. IsTrue (g.V.Shelf.cloud_at sh number).told → moment (later number) ≡ moment (g.V.Shelf.cloud_at sh number) + flush_moments disk.shares + flush_moments disk.recipes + 4) still.1 run told

pub returns-in-Err-Long-clause-any_moment : goal.returns-in-Err-Long-clause-any_moment
returns-in-Err-Long-clause-any_moment g c list chain entry p =
    let header = c.args.self.now.header in let number = header.cloud.0 in
    images_kept header list (asked.Delete c.args.user c.args.tag c.args.version) (g.V.Shelf.cloud_at c.args.shelf.now number) (g.V.Shelf.cloud_at c.have_room.new.shelf number) (c.have_room.ensures.any_moment list chain p.serves)

pub returns-in-Err-Failed-clause-any_moment : goal.returns-in-Err-Failed-clause-any_moment
returns-in-Err-Failed-clause-any_moment g c list chain entry p =
    let header = c.args.self.now.header in let number = header.cloud.0 in
    images_kept header list (asked.Delete c.args.user c.args.tag c.args.version) (g.V.Shelf.cloud_at c.args.shelf.now number) (g.V.Shelf.cloud_at c.have_room.new.shelf number) (c.have_room.ensures.any_moment list chain p.serves)

pub returns-in-Ok-add_roomy-clause-grown : goal.returns-in-Ok-add_roomy-clause-grown
returns-in-Ok-add_roomy-clause-grown g c =
    let store = c.args.self.now in let header = store.header in let number = header.cloud.0 in
    let c0 = g.V.Shelf.cloud_at c.args.shelf.now number in
    let mid = c.have_room.new.store in let keeps = c.in-Ok.ensures.same in let new = c.add_roomy.new.store in
    let at = g.V.Shelf.cloud_at c.have_room.new.shelf in let later = g.V.Shelf.cloud_at c.add_roomy.new.shelf in
    let header_is : mid.header ≡ header = ap (λ (x : CloudStore). x.header) keeps.same in
    let grown = subst (λ (x : CloudStore). DiskHasGrown mid.disk new.disk (body_bytes (bodies.Delete (record { user = c.args.user; tag = c.args.tag; version = c.args.version }))) (at number) (later number)) keeps.same
    (subst (λ (h : Header). DiskHasGrown mid.disk new.disk (body_bytes (bodies.Delete (record { user = c.args.user; tag = c.args.tag; version = c.args.version }))) (at h.cloud.0) (later h.cloud.0)) header_is c.in-Ok-add_roomy.ensures.grown) in
    grown_both store mid new (body_bytes (bodies.Delete (record { user = c.args.user; tag = c.args.tag; version = c.args.version }))) c0 (at number) (later number) keeps.shares keeps.recipes c.requires.settled.disk.shares c.requires.settled.disk.recipes
    (told_on c0 (at number) c.have_room.ensures.call.told) c.in-Ok.ensures.made grown

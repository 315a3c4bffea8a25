use Rattle.std.proofs.Common.{◌≡◌, ℕ, [], ◌∷◌, ◌++◌, inl, Err, sym, ap, ◌∙◌, subst, arith, ◌+◌, IsTrue, refl}
use Rattle.checkpoints.proofs.CdEdges.Moments.{started}
use Rattle.std.specs.Prelude.{◌-◌, ◌^◌, min}
use Rattle.cloud_store.specs.Adding.{IsTooLong}
use Rattle.checkpoints.specs.CloudMemory.Steps.{parts_of, with_put}
use Rattle.checkpoints.specs.JournalStart.start.Header.{Header}
use Rattle.checkpoints.specs.UserDedup.command.Command.TheVariants as asked
use Rattle.checkpoints.specs.CloudAreas.Adding.{with_record}
use Rattle.checkpoints.specs.CloudAreas.Standing.{Chain}
use Rattle.checkpoints.specs.CloudDisk.Disk.{IsOn, KeepsOrAdds, StandsForEither}
use Rattle.checkpoints.proofs.DiskProofs.Standing.{images_on}
use Rattle.checkpoints.specs.CloudMemory.Rooms.{memory_of}
use Rattle.checkpoints.specs.declared.whole.Unsettled.{Unsettled}
use Rattle.checkpoints.specs.Known.{IfLong}
use Rattle.cloud_store.specs.declared.store.CloudStore.{CloudStore}
use Rattle.cloud_store.specs.Store.{Serves, FitsHalf, chain_with_room}
use Rattle.cloud_store.proofs.Rooming.{chain_next}
use Rattle.cloud_store.proofs.Next.{images_both, images_kept}
use Rattle.checkpoints.proofs.MemoryProofs.FullRooms.{full_put_is}
use Rattle.cloud_store.specs.Adding.{put_record}
use Rattle.cloud_store.proofs.Moving.{put_moved}
use Rattle.cloud_opening.proofs.Spends.{ends_far}
use Rattle.cloud_store.proofs.Putting.{put_short}
use Rattle.checkpoints.specs.CdEdges.Disk.{moment}
use Rattle.checkpoints.specs.CdEdges.Shelf.{IsCall}
use Rattle.checkpoints.proofs.CdEdges.Calls.{called_twice}
use Rattle.checkpoints.proofs.CdEdges.Moments.{told_on}
use Rattle.checkpoints.specs.ContainerLog.States as logs
use Rattle.checkpoints.specs.CloudDisk.Held.{flush_moments}
use Rattle.checkpoints.specs.CloudDisk.Disk.{KeepsDiskOrGrows as GrowsBy}
use Rattle.cloud_store.proofs.Growing.{grows_both, grown_both, DiskHasGrown, grows_sums, grows_still}
use Rattle.checkpoints.specs.CloudDisk.Disk.{Disk}
use Rattle.cloud_store.proofs.Keeping.{serves_on}
use Rattle.checkpoints.specs.RecordBody.Spelling.{body_bytes}
use Rattle.cloud_store.proofs.store.CloudStore.add_put.Goals as goal

pub returns-in-Some-clause-any_moment : goal.returns-in-Some-clause-any_moment
returns-in-Some-clause-any_moment g c list chain strings p =
    let store = c.args.self.now in let header = store.header in let number = header.cloud.0 in
    let user = c.args.user in let news = c.args.news.now in let command = asked.Put user strings in
    let c0 = g.V.Shelf.cloud_at c.args.shelf.now number in
    let s = p.serves in let k = s.known in
    started c0 (StandsForEither header list command) (λ image left. inl (images_on header list chain store.disk c0 k.on image left))

pub returns-in-Some-clause-full_list : goal.returns-in-Some-clause-full_list
returns-in-Some-clause-full_list g c list chain strings p =
    let store = c.args.self.now in let header = store.header in let number = header.cloud.0 in
    let user = c.args.user in let news = c.args.news.now in let command = asked.Put user strings in
    let c0 = g.V.Shelf.cloud_at c.args.shelf.now number in
    let s = p.serves in let k = s.known in
    let is = full_put_is header.shape number header.rooms list user (memory_of store.memory) k.on.read.sound k.remembers k.within strings news p.are_of c.requires.new in
    sym is ∙ sym c.in-Some.ensures

pub returns-in-Err-Long-clause-full_list : goal.returns-in-Err-Long-clause-full_list
returns-in-Err-Long-clause-full_list g c list chain strings p =
    let store = c.args.self.now in let header = store.header in let number = header.cloud.0 in
    let user = c.args.user in let news = c.args.news.now in let command = asked.Put user strings in
    let c0 = g.V.Shelf.cloud_at c.args.shelf.now number in
    let s = p.serves in let k = s.known in
    let is = full_put_is header.shape number header.rooms list user (memory_of store.memory) k.on.read.sound k.remembers k.within strings news p.are_of c.requires.new in
    sym is ∙ sym c.in-None.ensures

pub returns-in-Err-Failed-clause-full_list : goal.returns-in-Err-Failed-clause-full_list
returns-in-Err-Failed-clause-full_list g c list chain strings p =
    let store = c.args.self.now in let header = store.header in let number = header.cloud.0 in
    let user = c.args.user in let news = c.args.news.now in let command = asked.Put user strings in
    let c0 = g.V.Shelf.cloud_at c.args.shelf.now number in
    let s = p.serves in let k = s.known in
    let is = full_put_is header.shape number header.rooms list user (memory_of store.memory) k.on.read.sound k.remembers k.within strings news p.are_of c.requires.new in
    sym is ∙ sym c.in-None.ensures

pub returns-in-Ok-add_roomy-clause-full_list : goal.returns-in-Ok-add_roomy-clause-full_list
returns-in-Ok-add_roomy-clause-full_list g c list chain strings p =
    let store = c.args.self.now in let header = store.header in let number = header.cloud.0 in
    let user = c.args.user in let news = c.args.news.now in let command = asked.Put user strings in
    let c0 = g.V.Shelf.cloud_at c.args.shelf.now number in
    let s = p.serves in let k = s.known in
    let is = full_put_is header.shape number header.rooms list user (memory_of store.memory) k.on.read.sound k.remembers k.within strings news p.are_of c.requires.new in
    sym is ∙ sym c.in-None.ensures

pub returns-in-Err-clause-full_list : goal.returns-in-Err-clause-full_list
returns-in-Err-clause-full_list g c list chain strings p =
    let store = c.args.self.now in let header = store.header in let number = header.cloud.0 in
    let user = c.args.user in let news = c.args.news.now in let command = asked.Put user strings in
    let c0 = g.V.Shelf.cloud_at c.args.shelf.now number in
    let s = p.serves in let k = s.known in
    let is = full_put_is header.shape number header.rooms list user (memory_of store.memory) k.on.read.sound k.remembers k.within strings news p.are_of c.requires.new in
    sym is ∙ sym c.in-None.ensures

pub returns-in-Err-Long-clause-never_long : goal.returns-in-Err-Long-clause-never_long
returns-in-Err-Long-clause-never_long g c fps =
    let store = c.args.self.now in let user = c.args.user in let news = c.args.news.now in let settled = c.requires.settled in
    let far = ends_far store.header.rooms store.region (memory_of store.memory) settled.header.rooms settled.rooms.users settled.region (settled.roomy c.requires.open) in
    let end = far.0 in
    let short = put_short user (memory_of store.memory) news c.requires.few fps c.requires.lens (omega (arith, end)) in
    let len = c.put_len-len.ensures.len user c.requires.new in
    subst (λ (why : Unsettled). IfLong {A = Unit {0}} (Err why) ⊥) c.in-Err-Long.field-0-is (c.in-Err-Long.ensures.never_long (omega (arith, short, len)))

pub returns-in-Err-Failed-clause-any_moment : goal.returns-in-Err-Failed-clause-any_moment
returns-in-Err-Failed-clause-any_moment g c list chain strings p =
    let store = c.args.self.now in let header = store.header in let number = header.cloud.0 in
    let user = c.args.user in let news = c.args.news.now in let command = asked.Put user strings in
    let c0 = g.V.Shelf.cloud_at c.args.shelf.now number in
    let s = p.serves in let k = s.known in
    images_kept header list command c0 (g.V.Shelf.cloud_at c.have_room.new.shelf number) (c.have_room.ensures.any_moment list chain s)

pub returns-in-Ok-add_roomy-clause-any_moment : goal.returns-in-Ok-add_roomy-clause-any_moment
returns-in-Ok-add_roomy-clause-any_moment g c list chain strings p =
    let store = c.args.self.now in let header = store.header in let number = header.cloud.0 in
    let user = c.args.user in let news = c.args.news.now in let command = asked.Put user strings in
    let c0 = g.V.Shelf.cloud_at c.args.shelf.now number in
    let s = p.serves in let k = s.known in
    let mid = c.have_room.new.store in let keeps = c.in-Ok.ensures.same in
    let at = g.V.Shelf.cloud_at c.have_room.new.shelf in let later = g.V.Shelf.cloud_at c.add_roomy.new.shelf in
    let header_is : mid.header ≡ header = ap (λ (x : CloudStore). x.header) keeps.same in
    let d = chain_with_room store list chain c.put_len-len.result in let c1 = at mid.header.cloud.0 in
    let serves = subst (λ (h : Header). Serves list d mid (at h.cloud.0)) (sym header_is) (c.in-Ok.ensures.serves list chain s) in
    let moved = put_moved list chain d store mid c0 c1 keeps serves user news strings p in
    images_both header list command c0 (at number) (later number) (c.have_room.ensures.any_moment list chain s)
    (subst (λ (h : Header). KeepsOrAdds h list command (at h.cloud.0) (later h.cloud.0)) header_is (c.add_roomy.ensures.any_moment list d strings moved))

pub returns-in-Err-clause-any_moment : goal.returns-in-Err-clause-any_moment
returns-in-Err-clause-any_moment g c list chain strings p =
    let store = c.args.self.now in let header = store.header in let number = header.cloud.0 in
    let user = c.args.user in let news = c.args.news.now in let command = asked.Put user strings in
    let c0 = g.V.Shelf.cloud_at c.args.shelf.now number in
    let s = p.serves in let k = s.known in
    let mid = c.have_room.new.store in let keeps = c.in-Ok.ensures.same in
    let at = g.V.Shelf.cloud_at c.have_room.new.shelf in let later = g.V.Shelf.cloud_at c.add_roomy.new.shelf in
    let header_is : mid.header ≡ header = ap (λ (x : CloudStore). x.header) keeps.same in
    let d = chain_with_room store list chain c.put_len-len.result in let c1 = at mid.header.cloud.0 in
    let serves = subst (λ (h : Header). Serves list d mid (at h.cloud.0)) (sym header_is) (c.in-Ok.ensures.serves list chain s) in
    let moved = put_moved list chain d store mid c0 c1 keeps serves user news strings p in
    images_both header list command c0 (at number) (later number) (c.have_room.ensures.any_moment list chain s)
    (subst (λ (h : Header). KeepsOrAdds h list command (at h.cloud.0) (later h.cloud.0)) header_is (c.add_roomy.ensures.any_moment list d strings moved))

pub returns-in-Ok-add_roomy-clause-added : goal.returns-in-Ok-add_roomy-clause-added
returns-in-Ok-add_roomy-clause-added g c list chain strings p =
    let store = c.args.self.now in let header = store.header in let number = header.cloud.0 in
    let user = c.args.user in let news = c.args.news.now in let command = asked.Put user strings in
    let c0 = g.V.Shelf.cloud_at c.args.shelf.now number in
    let s = p.serves in let k = s.known in
    let mid = c.have_room.new.store in let keeps = c.in-Ok.ensures.same in
    let at = g.V.Shelf.cloud_at c.have_room.new.shelf in let later = g.V.Shelf.cloud_at c.add_roomy.new.shelf in
    let header_is : mid.header ≡ header = ap (λ (x : CloudStore). x.header) keeps.same in
    let d = chain_with_room store list chain c.put_len-len.result in let c1 = at mid.header.cloud.0 in
    let serves = subst (λ (h : Header). Serves list d mid (at h.cloud.0)) (sym header_is) (c.in-Ok.ensures.serves list chain s) in
    let moved = put_moved list chain d store mid c0 c1 keeps serves user news strings p in
    let len_is = c.put_len-len.ensures.len user c.requires.new in
    let got = c.in-Ok-add_roomy.ensures.added list d strings moved in
    let here = subst (λ (h : Header). Serves (list ++ command ∷ []) (with_record d (put_record mid user news) []) c.add_roomy.new.store (later h.cloud.0)) header_is got in
    let same = subst (λ (x : CloudStore). Serves (list ++ command ∷ []) (with_record d (put_record x user news) []) c.add_roomy.new.store (later number)) keeps.same here in
    subst (λ (n : ℕ). Serves (list ++ command ∷ []) (with_record (chain_with_room store list chain n) (put_record store user news) []) c.add_roomy.new.store (later number)) len_is same

pub returns-in-Ok-add_roomy-clause-checkpoint_first : goal.returns-in-Ok-add_roomy-clause-checkpoint_first
returns-in-Ok-add_roomy-clause-checkpoint_first g c list chain strings p not =
    let store = c.args.self.now in let header = store.header in let number = header.cloud.0 in
    let user = c.args.user in let news = c.args.news.now in let command = asked.Put user strings in
    let c0 = g.V.Shelf.cloud_at c.args.shelf.now number in
    let s = p.serves in let k = s.known in
    let mid = c.have_room.new.store in let keeps = c.in-Ok.ensures.same in
    let at = g.V.Shelf.cloud_at c.have_room.new.shelf in let later = g.V.Shelf.cloud_at c.add_roomy.new.shelf in
    let header_is : mid.header ≡ header = ap (λ (x : CloudStore). x.header) keeps.same in
    let d = chain_with_room store list chain c.put_len-len.result in let c1 = at mid.header.cloud.0 in
    let serves = subst (λ (h : Header). Serves list d mid (at h.cloud.0)) (sym header_is) (c.in-Ok.ensures.serves list chain s) in
    let moved = put_moved list chain d store mid c0 c1 keeps serves user news strings p in
    let len_is = c.put_len-len.ensures.len user c.requires.new in
    let fresh = chain_next store list chain c.put_len-len.result (λ fits. not (subst (λ (n : ℕ). FitsHalf store n) len_is fits)) in
    record {
      at = at number;
      disk = mid.disk;
      on =
          subst (λ (e : Chain). IsOn header list e mid.disk (at number)) fresh
          (subst (λ (h : Header). IsOn h list d mid.disk (at number)) header_is (c.in-Ok.ensures.serves list chain s).known.on);
      until = c.have_room.ensures.only_journal list chain s;
      since =
          subst (λ (h : Header). KeepsOrAdds h list command (at h.cloud.0) (later h.cloud.0)) header_is (c.add_roomy.ensures.any_moment list d strings moved);
    }

pub returns-in-Ok-add_roomy-clause-taken : goal.returns-in-Ok-add_roomy-clause-taken
returns-in-Ok-add_roomy-clause-taken g c =
    c.add_roomy.ensures.taken
    ∙ ap (λ (x : CloudStore). with_put c.args.user (parts_of c.args.user (memory_of x.memory) c.args.news.now) (memory_of x.memory)) c.in-Ok.ensures.same.same

pub returns-in-Ok-add_roomy-clause-number : goal.returns-in-Ok-add_roomy-clause-number
returns-in-Ok-add_roomy-clause-number g c =
    c.in-Ok-add_roomy.ensures.number ∙ ap (λ (x : CloudStore). min (x.commands + 1) (2 ^ 64 - 1)) c.in-Ok.ensures.same.same

pub returns-in-Err-Long-clause-long : goal.returns-in-Err-Long-clause-long
returns-in-Err-Long-clause-long g c =
    subst (λ (n : ℕ). IsTooLong c.args.self.now n) (c.put_len-len.ensures.len c.args.user c.requires.new) (subst (λ (why : Unsettled). IfLong {A = Unit {0}} (Err why) (IsTooLong c.args.self.now c.put_len-len.result)) c.in-Err-Long.field-0-is c.in-Err-Long.ensures.long)

pub returns-in-Ok-add_roomy-clause-chain : goal.returns-in-Ok-add_roomy-clause-chain
returns-in-Ok-add_roomy-clause-chain g c =
    let store = c.args.self.now in let header = store.header in let number = header.cloud.0 in
    let c0 = g.V.Shelf.cloud_at c.args.shelf.now number in
    let mid = c.have_room.new.store in let keeps = c.in-Ok.ensures.same in
    let at = g.V.Shelf.cloud_at c.have_room.new.shelf in let later = g.V.Shelf.cloud_at c.add_roomy.new.shelf in
    let header_is : mid.header ≡ header = ap (λ (x : CloudStore). x.header) keeps.same in
    let grows = subst (λ (x : CloudStore). GrowsBy mid.disk (body_bytes (put_record x c.args.user c.args.news.now)) (at number) (later number)) keeps.same
    (subst (λ (h : Header). GrowsBy mid.disk (body_bytes (put_record mid c.args.user c.args.news.now)) (at h.cloud.0) (later h.cloud.0)) header_is c.add_roomy.ensures.chain) in
    grows_both store mid (body_bytes (put_record store c.args.user c.args.news.now)) c0 (at number) (later number) keeps.shares keeps.recipes c.requires.settled.disk.shares c.requires.settled.disk.recipes
    (told_on c0 (at number) c.have_room.ensures.call.told) c.have_room.ensures.chain grows c.in-Ok.ensures.made

pub returns-in-Err-clause-chain : goal.returns-in-Err-clause-chain
returns-in-Err-clause-chain g c =
    let store = c.args.self.now in let header = store.header in let number = header.cloud.0 in
    let c0 = g.V.Shelf.cloud_at c.args.shelf.now number in
    let mid = c.have_room.new.store in let keeps = c.in-Ok.ensures.same in
    let at = g.V.Shelf.cloud_at c.have_room.new.shelf in let later = g.V.Shelf.cloud_at c.add_roomy.new.shelf in
    let header_is : mid.header ≡ header = ap (λ (x : CloudStore). x.header) keeps.same in
    let grows = subst (λ (x : CloudStore). GrowsBy mid.disk (body_bytes (put_record x c.args.user c.args.news.now)) (at number) (later number)) keeps.same
    (subst (λ (h : Header). GrowsBy mid.disk (body_bytes (put_record mid c.args.user c.args.news.now)) (at h.cloud.0) (later h.cloud.0)) header_is c.add_roomy.ensures.chain) in
    grows_both store mid (body_bytes (put_record store c.args.user c.args.news.now)) c0 (at number) (later number) keeps.shares keeps.recipes c.requires.settled.disk.shares c.requires.settled.disk.recipes
    (told_on c0 (at number) c.have_room.ensures.call.told) c.have_room.ensures.chain grows c.in-Ok.ensures.made

pub returns-in-Some-clause-chain : goal.returns-in-Some-clause-chain
returns-in-Some-clause-chain g c =
    let store = c.args.self.now in
    grows_still store (body_bytes (put_record store c.args.user c.args.news.now)) (g.V.Shelf.cloud_at c.args.shelf.now store.header.cloud.0)

pub returns-in-Some-clause-unadded : goal.returns-in-Some-clause-unadded
returns-in-Some-clause-unadded g c = (ap (λ (d : Disk). record c.args.self.now { disk = d }) c.unstage.ensures.forgets, refl)

pub returns-in-Some-clause-serves_still : goal.returns-in-Some-clause-serves_still
returns-in-Some-clause-serves_still g c list chain cloud serves =
    let store = c.args.self.now in let same = c.unstage.ensures.forgets in
    serves_on list chain store c.unstage.new.self cloud cloud serves (c.unstage.ensures.on store.header list chain cloud serves.known.on) refl (ap (λ (d : Disk). d.shares.end) same) (ap (λ (d : Disk). d.recipes.end) same)

pub returns-in-Err-Long-clause-chain : goal.returns-in-Err-Long-clause-chain
returns-in-Err-Long-clause-chain g c =
    let store = c.args.self.now in let number = store.header.cloud.0 in
    grows_sums store (body_bytes (put_record store c.args.user c.args.news.now)) (g.V.Shelf.cloud_at c.args.shelf.now number) (g.V.Shelf.cloud_at c.have_room.new.shelf number) c.have_room.ensures.chain

pub returns-in-Err-Failed-clause-chain : goal.returns-in-Err-Failed-clause-chain
returns-in-Err-Failed-clause-chain g c =
    let store = c.args.self.now in let number = store.header.cloud.0 in
    grows_sums store (body_bytes (put_record store c.args.user c.args.news.now)) (g.V.Shelf.cloud_at c.args.shelf.now number) (g.V.Shelf.cloud_at c.have_room.new.shelf number) c.have_room.ensures.chain

pub returns-in-Ok-add_roomy-clause-ends : goal.returns-in-Ok-add_roomy-clause-ends
returns-in-Ok-add_roomy-clause-ends g c =
    let keeps = c.in-Ok.ensures.same in let ends = c.in-Ok-add_roomy.ensures.ends in
    record { shares = ends.shares ∙ ap logs.staged_end keeps.shares; recipes = ends.recipes ∙ ap logs.staged_end keeps.recipes }

pub returns-in-Ok-add_roomy-clause-moments : goal.returns-in-Ok-add_roomy-clause-moments
returns-in-Ok-add_roomy-clause-moments g c told fits =
    let number = c.args.self.now.header.cloud.0 in let later = g.V.Shelf.cloud_at c.add_roomy.new.shelf in let disk = c.args.self.now.disk in
    let at = g.V.Shelf.cloud_at c.have_room.new.shelf in
    let still = c.have_room.ensures.untouched (subst (λ (n : ℕ). FitsHalf c.args.self.now n) (sym (c.put_len-len.ensures.len c.args.user c.requires.new)) fits) in
    let run = subst (λ (x : CloudStore). IsTrue (at x.header.cloud.0).told → moment (later x.header.cloud.0) ≡ moment (at x.header.cloud.0) + flush_moments x.disk.shares + flush_moments x.disk.recipes + 4) still.0
    c.in-Ok-add_roomy.ensures.moments in
    subst (λ sh. IsTrue (g.V.Shelf.cloud_at sh number).told → moment (later number) ≡ moment (g.V.Shelf.cloud_at sh number) + flush_moments disk.shares + flush_moments disk.recipes + 4) still.1 run told

pub returns-in-Err-Long-clause-any_moment : goal.returns-in-Err-Long-clause-any_moment
returns-in-Err-Long-clause-any_moment g c list chain strings p =
    let store = c.args.self.now in let header = store.header in let number = header.cloud.0 in
    let user = c.args.user in let news = c.args.news.now in let command = asked.Put user strings in
    let c0 = g.V.Shelf.cloud_at c.args.shelf.now number in
    let s = p.serves in let k = s.known in
    images_kept header list command c0 (g.V.Shelf.cloud_at c.have_room.new.shelf number) (c.have_room.ensures.any_moment list chain s)

pub returns-in-Err-clause-call : goal.returns-in-Err-clause-call
returns-in-Err-clause-call g c =
    let keeps = c.in-Ok.ensures.same in
    let header_is : c.have_room.new.store.header ≡ c.args.self.now.header = ap (λ (x : CloudStore). x.header) keeps.same in
    called_twice _ _ _ _ _ _ _ c.have_room.ensures.call
    (subst (λ (h : Header). IsCall (g.V.Shelf.cloud_at c.have_room.new.shelf) (g.V.Shelf.cloud_at c.add_roomy.new.shelf) h.cloud.0 (g.V.Shelf.faults c.have_room.new.shelf) (g.V.Shelf.faults c.add_roomy.new.shelf)) header_is c.add_roomy.ensures.call)

pub returns-in-Ok-add_roomy-clause-grown : goal.returns-in-Ok-add_roomy-clause-grown
returns-in-Ok-add_roomy-clause-grown g c =
    let store = c.args.self.now in let header = store.header in let number = header.cloud.0 in
    let c0 = g.V.Shelf.cloud_at c.args.shelf.now number in
    let mid = c.have_room.new.store in let keeps = c.in-Ok.ensures.same in let new = c.add_roomy.new.store in
    let at = g.V.Shelf.cloud_at c.have_room.new.shelf in let later = g.V.Shelf.cloud_at c.add_roomy.new.shelf in
    let header_is : mid.header ≡ header = ap (λ (x : CloudStore). x.header) keeps.same in
    let grown = subst (λ (x : CloudStore). DiskHasGrown mid.disk new.disk (body_bytes (put_record x c.args.user c.args.news.now)) (at number) (later number)) keeps.same
    (subst (λ (h : Header). DiskHasGrown mid.disk new.disk (body_bytes (put_record mid c.args.user c.args.news.now)) (at h.cloud.0) (later h.cloud.0)) header_is c.in-Ok-add_roomy.ensures.grown) in
    grown_both store mid new (body_bytes (put_record store c.args.user c.args.news.now)) c0 (at number) (later number) keeps.shares keeps.recipes c.requires.settled.disk.shares c.requires.settled.disk.recipes
    (told_on c0 (at number) c.have_room.ensures.call.told) c.in-Ok.ensures.made grown

-- What a reclaim comes to, by its copies and the switch.
use Rattle.std.proofs.Common.{◌≡◌, ℕ, List, map, Option, Some, None, Result, Ok, Err, refl, sym, ap, ◌∙◌, subst, inl}
use Rattle.std.specs.Prelude.{IsTrue, IsSome, All, option_map}
use Rattle.std.specs.FinMap.{get}
use Rattle.share_server.specs.CdBase.ids.Fp.{Fp}
use Rattle.share_server.specs.CdBase.shape.Shape.{Shape}
use Rattle.share_server.specs.CdEdges.area.Area.TheVariants.{Shares, Recipes}
use Rattle.share_server.specs.CdEdges.Disk.{Cloud, Store, Image, LeavesOnly, reads}
use Rattle.share_server.proofs.CdEdges.Calls.{called_twice, failed_after}
use Rattle.share_server.proofs.CdEdges.Moments.{joined, weaker, told_on}
use Rattle.compact_memories.proofs.CompactLists.RoomLaws.{strings_kept}
use Rattle.compact_memories.proofs.CompactLists.Spent.{spent_kept}
use Rattle.compact_memories.specs.declared.alive.Reclaimed.{Reclaimed}
use Rattle.share_server.specs.JournalStart.start.Header.{Header}
use Rattle.compact_memories.specs.UserDedup.command.Command.{Command}
use Rattle.compact_memories.specs.UserDedup.Cloud.{user_view}
use Rattle.compact_memories.specs.UserDedup.Compact.{compact}
use Rattle.compact_memories.specs.UserDedup.Dedup.{IsSound}
use Rattle.compact_memories.specs.UserDedup.Pages.{entry_at}
use Rattle.compact_memories.proofs.UserDedup.Compacting.{same_own, same_entries}
use Rattle.compact_memories.specs.CloudAreas.Standing.{Chain, StandsFor}
use Rattle.compact_memories.specs.CloudMemory.Memory.{Memory, Remembers, summary, summary_of}
use Rattle.compact_memories.specs.CloudMemory.Rooms.{memory_of}
use Rattle.blob_audit.specs.AuditBase.Whole.{tables_of}
use Rattle.blob_audit.specs.Reading.{AreStored}
use Rattle.compact_memories.specs.Checkpoints.Known.{AreListed}
use Rattle.share_server.specs.BlobCopy.CompactMemories.Kept.{live_sum}
use Rattle.share_server.specs.BlobCopy.Copies.{share_blob, entry_blob, IsRight}
use Rattle.share_server.specs.BlobCopy.Copying.{AreAllCopied, StandsForKept, copies_start, shares_so_far, entries_so_far}
use Rattle.share_server.specs.CloudStore.store.CloudStore.{CloudStore}
use Rattle.share_server.specs.CloudStore.Store.{Serves, ServesSome}
use Rattle.share_server.specs.declared.copies.Copies.{Copies}
use Rattle.share_server.specs.declared.copies.ReclaimErr.{ReclaimErr}
use Rattle.share_server.specs.declared.copies.ReclaimErr.TheVariants as why
use Rattle.share_server.specs.Copies.{OnReclaimFault, IfRottenThere, KeepsCopies, KeepsAllBut, no_copies}
use Rattle.reclaim.specs.Reclaims.{KeepsLive}
use Rattle.reclaim.specs.Inner.{CopiesAll, Switches, Reclaims, laid_blobs}
use Rattle.reclaim.proofs.Going.{fault_too, done_too, kept_twice}
use Rattle.reclaim.specs.Sums.{IsSumOf}
use Rattle.reclaim.proofs.Summed.{sums}
use Rattle.reclaim.proofs.Unlike.{unlike}
use Rattle.reclaim.proofs.Whole.{none_right, all_whole}

-- ---- what is kept

is_some : {A B : Type 0} (f : A → B) (o : Option A) (y : B) → Some y ≡ option_map f o → IsSome o
is_some f (Some x) y e = refl
is_some f None y e = absurd (let no : Some y ≡ None = e in cc)

there : {A : Type 0} (o : Option A) (x : A) → o ≡ Some x → IsSome o
there (Some y) x e = refl
there None x e = absurd (let no : None ≡ Some x = e in cc)

pub keeps_live : (shape : Shape) (cloud : ℕ) (list : List Command) (m : Memory) → IsSound shape cloud list → Remembers shape (compact shape list) m → KeepsLive shape list m
keeps_live shape cloud list m sound is = record {
  own = same_own shape list;
  files = same_entries shape list;
  spent = λ user. is.spent user ∙ spent_kept shape cloud list sound user;
  placed = λ fp place has. (strings_kept shape list fp).0 ((is.placed fp).0 (there (get m.places fp.0) place has));
  entered = λ user tag version e has.
      let files = (user_view shape list user).files in
      is_some summary_of (entry_at files (tag, version)) (summary e)
      (sym (ap (option_map summary) has) ∙ is.files user tag version ∙ ap (option_map summary_of) (same_entries shape list user (tag, version)));
}

-- ---- answers

-- a server that stays open unless a device failed is open where a blob is rotten
open_there : (A B : Type 0) (e : ReclaimErr) (F K : Type 0) → OnReclaimFault {T = A} (Err e) F K → IfRottenThere {T = B} (Err e) (λ named found. K)
open_there A B why.Fault F K is = tt
open_there A B (why.Rotten named found) F K is = is
open_there A B why.NoMemory F K is = tt

-- what else is so of what is rotten
rotten_as : (A B : Type 0) (e : ReclaimErr) (P Q : Fp → Fp → Type 0) → ((named found : Fp) → P named found → Q named found) → IfRottenThere {T = A} (Err e) P → IfRottenThere {T = B} (Err e) Q
rotten_as A B why.Fault P Q more is = tt
rotten_as A B (why.Rotten named found) P Q more is = more named found is
rotten_as A B why.NoMemory P Q more is = tt

never : (A B : Type 0) (e : ReclaimErr) (P : Fp → Fp → Type 0) → IfRottenThere {T = A} (Err e) (λ named found. ⊥) → IfRottenThere {T = B} (Err e) P
never A B why.Fault P is = tt
never A B (why.Rotten named found) P is = absurd is
never A B why.NoMemory P is = tt

shut_there : (A : Type 0) (e : ReclaimErr) (F : Type 0) → F → OnReclaimFault {T = A} (Err e) F (Unit {0})
shut_there A why.Fault F is = is
shut_there A (why.Rotten named found) F is = tt
shut_there A why.NoMemory F is = tt

-- copies that are left, where all else stays
pub dropped : (s0 s2 : CloudStore) (a b : ℕ → Cloud) (f0 f1 : ℕ) (result : Result Reclaimed ReclaimErr) (store : CloudStore) (copies : Copies) → store ≡ s2 → copies ≡ no_copies
    → Reclaims s0 s2 no_copies a b f0 f1 result → Reclaims s0 store copies a b f0 f1 result
dropped s0 s2 a b f0 f1 result store copies same none is =
    subst (λ (s : CloudStore). Reclaims s0 s copies a b f0 f1 result) (sym same) (subst (λ (k : Copies). Reclaims s0 s2 k a b f0 f1 result) (sym none) is)

-- ---- the copies

module _ (s0 s1 s2 : CloudStore) (c1 c2 : Copies) (a b : ℕ → Cloud) (f0 f1 : ℕ) (begun : KeepsAllBut s0 s1)
    (copied : (list : List Command) (c : Chain) (cloud : Cloud) → Serves list c s0 cloud → KeepsCopies list c s1 c1 cloud) where
  abbrev n : ℕ
  n = s0.header.cloud.0

  abbrev started : CloudStore
  started = record s0 { disk = s1.disk }

  abbrev Stands : List Command → Image → Type 0
  Stands list = λ image. StandsFor image s0.header list

  abbrev EitherStands : List Command → Image → Type 0
  EitherStands list = StandsForKept s0.header list

  from_start : (r : Result (Unit {0}) ReclaimErr) → CopiesAll s1 s2 c1 c2 a b f0 f1 r → CopiesAll started s2 c1 c2 a b f0 f1 r
  from_start r = subst (λ (s : CloudStore). CopiesAll s s2 c1 c2 a b f0 f1 r) begun

  kept_at_start : (list : List Command) (some : ServesSome list s0 (a n)) → KeepsCopies list some.c started c1 (a n)
  kept_at_start list some = subst (λ (s : CloudStore). KeepsCopies list some.c s c1 (a n)) begun (copied list some.c (a n) some.serves)

  copies_leave : (r : Result (Unit {0}) ReclaimErr) → CopiesAll started s2 c1 c2 a b f0 f1 r → (list : List Command) → ServesSome list s0 (a n)
      → LeavesOnly (a n) (b n) (EitherStands list)
  copies_leave r all list some = weaker (a n) (b n) (Stands list) (EitherStands list) (all.any_moment list some.c (kept_at_start list some)) (λ image stands. inl stands)

  -- they were given up
  pub gave_up : (e : ReclaimErr) (copies : Copies) → copies ≡ no_copies → AreListed s0.memory → CopiesAll s1 s2 c1 c2 a b f0 f1 (Err e) → Reclaims s0 s2 copies a b f0 f1 (Err e)
  gave_up e copies none listed is =
      let all = from_start (Err e) is in
      record {
        any_moment = copies_leave (Err e) all;
        reclaimed = λ list some. tt;
        kept = λ list some. tt;
        answers = λ list some. done_too (Unit {0}) Reclaimed e (all.answers list some.c (kept_at_start list some));
        sums = λ list some. tt;
        sum = tt;
        moved = tt;
        whole = λ told. tt;
        number = tt;
        region = tt;
        rotten = λ told. rotten_as (Unit {0}) Reclaimed e _ _ (unlike s0.memory listed (reads (b n).now)) (all.rotten told);
        spared = λ told. open_there (Unit {0}) Reclaimed e _ _ (all.spared told);
        given_up = λ opened. all.same;
        opened = tt;
        still_open = open_there (Unit {0}) Reclaimed e _ _ all.stage;
        closed = fault_too (Unit {0}) Reclaimed e _ _ _ _ all.stage (λ x. x) (λ x. tt);
        none = none;
        same = ap (λ (s : CloudStore). s.header) all.same;
        call = all.call;
        counts = fault_too (Unit {0}) Reclaimed e _ _ _ _ all.counts (λ x. x) (λ x. x);
      }

  -- ---- the switch

  module _ (s3 : CloudStore) (c : ℕ → Cloud) (f2 : ℕ) (is : CopiesAll s1 s2 c1 c2 a b f0 f1 (Ok tt)) where
    abbrev all : CopiesAll started s2 c1 c2 a b f0 f1 (Ok tt)
    all = from_start (Ok tt) is

    abbrev copied_all : CloudStore
    copied_all = record s0 { disk = s2.disk }

    from_copies : (r : Result (Unit {0}) ReclaimErr) → Switches s2 s3 c2 b c f1 f2 r → Switches copied_all s3 c2 b c f1 f2 r
    from_copies r = subst (λ (s : CloudStore). Switches s s3 c2 b c f1 f2 r) all.same

    kept_at_end : (list : List Command) (some : ServesSome list s0 (a n)) → KeepsCopies list some.c copied_all c2 (b n)
    kept_at_end list some = subst (λ (s : CloudStore). KeepsCopies list some.c s c2 (b n)) all.same (all.copied list some.c (kept_at_start list some))

    all_leave : (r : Result (Unit {0}) ReclaimErr) → Switches copied_all s3 c2 b c f1 f2 r → (list : List Command) → ServesSome list s0 (a n) → LeavesOnly (a n) (c n) (EitherStands list)
    all_leave r switch list some =
        joined (a n) (b n) (c n) (EitherStands list) (copies_leave (Ok tt) all list some) (switch.any_moment list some.c (kept_at_end list some))

    live_now : (header : Header) (list : List Command) → header ≡ s0.header → ServesSome list s0 (a n) → Remembers header.shape (compact s0.header.shape list) (memory_of s3.memory)
        → KeepsLive s0.header.shape list (memory_of s3.memory)
    live_now header list same some remembers =
        keeps_live s0.header.shape s0.header.cloud.0 list (memory_of s3.memory) some.serves.known.on.read.sound
        (subst (λ (h : Header). Remembers h.shape (compact s0.header.shape list) (memory_of s3.memory)) same remembers)

    whole_now : IsTrue (a n).told → (c1.copying.place_slot ≡ 0) × (c1.copying.file_slot ≡ 0) → Switches copied_all s3 c2 b c f1 f2 (Ok tt) → AreStored (reads (c n).now) (tables_of s3.memory)
    whole_now told none switch =
        let right = all.right told (none_right started c1 (reads (a n).now) none.0 none.1) in
        let others = switch.others (told_on (a n) (b n) all.call.told told) in
        all_whole copied_all c2 (reads (c n).now) s3.memory
        (subst (λ (s : CloudStore). AreAllCopied s c2.copying) all.same all.all)
        (record {
          shares = subst (λ (s : Store). All (IsRight s.read) (laid_blobs (copies_start s0) (map share_blob (shares_so_far s0 c2.copying)))) (sym (others Shares (λ e. cc))) right.shares;
          entries = subst (λ (s : Store). All (IsRight s.read) (laid_blobs (copies_start s0) (map entry_blob (entries_so_far s0 c2.copying)))) (sym (others Recipes (λ e. cc))) right.entries;
        }) switch.moved

    -- it was made
    pub switched_over : (sum : Reclaimed) (copies : Copies) → sum ≡ live_sum s0.memory → copies ≡ no_copies → AreListed s0.memory → (c1.copying.place_slot ≡ 0) × (c1.copying.file_slot ≡ 0) → Switches s2 s3 c2 b c f1 f2 (Ok tt)
        → Reclaims s0 s3 copies a c f0 f2 (Ok sum)
    switched_over sum copies sum_is none listed at_start switches =
        let switch = from_copies (Ok tt) switches in
        record {
          any_moment = all_leave (Ok tt) switch;
          reclaimed = λ list some. switch.peer list some.c (kept_at_end list some);
          kept = λ list some. live_now s3.header list switch.header some (switch.switched list some.c (kept_at_end list some)).serves.known.remembers;
          answers = λ list some. tt;
          sums = λ list some. subst (IsSumOf s0.header.shape list) (sym sum_is) (sums s0.header.shape list s0.memory some.serves.known.remembers listed);
          sum = sum_is;
          moved = switch.moved;
          whole = λ told. whole_now told at_start switch;
          number = switch.number;
          region = switch.region;
          rotten = λ told. tt;
          spared = λ told. tt;
          given_up = tt;
          opened = switch.opened;
          still_open = tt;
          closed = tt;
          none = none;
          same = switch.header;
          call = called_twice a b c n f0 f1 f2 all.call switch.call;
          counts = kept_twice (a n) (b n) (c n) f0 f1 f2 all.counts switch.counts;
        }

    -- it wasn't
    pub not_switched : (e : ReclaimErr) (copies : Copies) → copies ≡ no_copies → Switches s2 s3 c2 b c f1 f2 (Err e) → Reclaims s0 s3 copies a c f0 f2 (Err e)
    not_switched e copies none switches =
        let switch = from_copies (Err e) switches in
        record {
          any_moment = all_leave (Err e) switch;
          reclaimed = λ list some. tt;
          kept = λ list some. tt;
          answers = λ list some. done_too (Unit {0}) Reclaimed e (switch.answers list some.c (kept_at_end list some));
          sums = λ list some. tt;
          sum = tt;
          moved = tt;
          whole = λ told. tt;
          number = tt;
          region = tt;
          rotten = λ told. never (Unit {0}) Reclaimed e _ switch.never_rotten;
          spared = λ told. never (Unit {0}) Reclaimed e _ switch.never_rotten;
          given_up = λ opened. absurd (switch.shut opened);
          opened = tt;
          still_open = never (Unit {0}) Reclaimed e _ switch.never_rotten;
          closed = shut_there Reclaimed e _ switch.shut;
          none = none;
          same = switch.header;
          call = called_twice a b c n f0 f1 f2 all.call switch.call;
          counts = fault_too (Unit {0}) Reclaimed e _ _ _ _ switch.counts (failed_after a b c n f0 f1 f2 all.call) (kept_twice (a n) (b n) (c n) f0 f1 f2 all.counts);
        }

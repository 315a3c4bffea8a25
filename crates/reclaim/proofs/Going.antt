-- Steps of a copy, one behind another, and the switch behind them.
use Rattle.std.proofs.Common.{◌≡◌, ◌<◌, ◌≤◌, ◌+◌, ◌-◌, ℕ, Bool, true, false, List, [], ◌∷◌, length, take, Option, Some, None, Result, Ok, Err, refl, sym, ◌∙◌, subst, arith, inl, inr, ◌⊎◌, length-take}
use Rattle.std.specs.Prelude.{IsTrue}
use Rattle.share_server.specs.CdBase.ids.Fp.{Fp}
use Rattle.share_server.specs.CdEdges.Disk.{Cloud, Image, LeavesOnly, reads}
use Rattle.share_server.specs.CdEdges.Shelf.{IsCall, KeepsCounts}
use Rattle.share_server.proofs.CdEdges.Calls.{called_twice, failed_after}
use Rattle.share_server.proofs.CdEdges.Moments.{joined, told_on}
use Rattle.compact_memories.specs.UserDedup.command.Command.{Command}
use Rattle.compact_memories.specs.CloudAreas.Placing.{region_len}
use Rattle.compact_memories.specs.CloudAreas.Standing.{Chain, StandsFor}
use Rattle.compact_memories.specs.FileIndex.key.Entry.{Entry}
use Rattle.compact_memories.specs.FileIndex.key.FileKey.{FileKey}
use Rattle.compact_memories.proofs.Relaying.{laid_grows}
use Rattle.compact_memories.specs.ContainerLog.Laying.{Placed}
use Rattle.compact_memories.specs.ContainerLog.Places.{end_of_laid}
use Rattle.compact_memories.specs.Checkpoints.Picking.{onto, picked}
use Rattle.share_server.specs.BlobCopy.CompactMemories.Kept.{live_at}
use Rattle.share_server.specs.BlobCopy.CompactMemories.Moved.{lens_of, entry_lens}
use Rattle.share_server.specs.BlobCopy.Copies.{HasCopied, KeepsBeside}
use Rattle.share_server.specs.BlobCopy.Copying.{AreAllCopied, copies_start, shares_so_far, entries_so_far}
use Rattle.share_server.specs.CloudStore.store.CloudStore.{CloudStore}
use Rattle.share_server.specs.CloudStore.Store.{IsOpen}
use Rattle.share_server.specs.declared.copies.Copies.{Copies}
use Rattle.share_server.specs.declared.copies.ReclaimErr.{ReclaimErr}
use Rattle.share_server.specs.declared.copies.ReclaimErr.TheVariants as why
use Rattle.share_server.specs.Copies.{OnReclaimFault, IfRottenThere, IsDoneOrFault, at_copies, AreCopiesLaid, KeepsCopies, KeepsAllBut, copied_so_far}
use Rattle.reclaim.specs.Inner.{StepsCopying, CopiesAll, AreCopiesRight}
use Rattle.reclaim.specs.Reclaims.{IsOutOf, KeepsOtherRegion}
use Rattle.reclaim.proofs.Whole.{more_right, further}

-- ---- a step leaves less to copy

onto_few : {X : Type 0} (o : Option X) (xs : List X) (n : ℕ) → length xs ≤ n → length (onto o xs) ≤ n + 1
onto_few None xs n le = omega (arith, le)
onto_few (Some x) xs n le = omega (arith, le)

picked_few : {S X : Type 0} (f : S → Option X) (slots : List S) → length (picked f slots) ≤ length slots
picked_few f [] = omega arith
picked_few f (s ∷ slots) = let few = onto_few (f s) (picked f slots) (length slots) (picked_few f slots) in omega (arith, few)

first_few : {S X : Type 0} (f : S → Option X) (count : ℕ) (slots : List S) → length (picked f (take count slots)) ≤ length slots
first_few f count slots = omega (arith, picked_few f (take count slots), length-take count slots)

-- how many slots there are
abbrev pub slots_in : CloudStore → ℕ
slots_in store = length store.memory.shares.place_slots + length store.memory.files.slots

-- how many blobs may be left at most
abbrev pub left_of : CloudStore → Copies → ℕ
left_of store copies = slots_in store - copied_so_far store copies.copying

shares_few : (store : CloudStore) (copies : Copies) → length (shares_so_far store copies.copying) ≤ length store.memory.shares.place_slots
shares_few store copies = first_few (live_at store.memory.shares.owners) copies.copying.place_slot store.memory.shares.place_slots

entries_few : (store : CloudStore) (copies : Copies) → length (entries_so_far store copies.copying) ≤ length store.memory.files.slots
entries_few store copies = first_few (λ (e : Option (FileKey × Entry)). e) copies.copying.file_slot store.memory.files.slots

both_few : (a b c d : ℕ) → a ≤ c → b ≤ d → a + b ≤ c + d
both_few a b c d one two = omega (arith, one, two)

copied_few : (store : CloudStore) (copies : Copies) → copied_so_far store copies.copying ≤ slots_in store
copied_few store copies = both_few (length (shares_so_far store copies.copying)) (length (entries_so_far store copies.copying)) (length store.memory.shares.place_slots) (length store.memory.files.slots)
    (shares_few store copies) (entries_few store copies)

less : (n a b : ℕ) → a < b → b ≤ n → n - b < n - a
less n a b lt le = omega (arith, lt, le)

pub fewer_left : (old new : CloudStore) (from to : Copies) → KeepsAllBut old new → copied_so_far old from.copying < copied_so_far old to.copying → left_of new to < left_of old from
fewer_left old new from to same lt =
    subst (λ (s : CloudStore). left_of s to < left_of old from) (sym same)
    (less (slots_in old) (copied_so_far old from.copying) (copied_so_far old to.copying) lt (copied_few old to))

-- ---- answers of one type as answers of another

pub fault_too : (A B : Type 0) (e : ReclaimErr) (F K G L : Type 0) → OnReclaimFault {T = A} (Err e) F K → (F → G) → (K → L) → OnReclaimFault {T = B} (Err e) G L
fault_too A B why.Fault F K G L is f k = f is
fault_too A B (why.Rotten named found) F K G L is f k = k is
fault_too A B why.NoMemory F K G L is f k = k is

pub rotten_too : (A B : Type 0) (e : ReclaimErr) (P : Fp → Fp → Type 0) → IfRottenThere {T = A} (Err e) P → IfRottenThere {T = B} (Err e) P
rotten_too A B why.Fault P is = tt
rotten_too A B (why.Rotten named found) P is = is
rotten_too A B why.NoMemory P is = tt

pub done_too : (A B : Type 0) (e : ReclaimErr) → IsDoneOrFault {T = A} (Err e) → IsDoneOrFault {T = B} (Err e)
done_too A B why.Fault is = tt
done_too A B (why.Rotten named found) is = is
done_too A B why.NoMemory is = is

pub kept_twice : (a b c : Cloud) (before mid now : ℕ) → KeepsCounts a b before mid → KeepsCounts b c mid now → KeepsCounts a c before now
kept_twice a b c before mid now first second = record { cloud = second.cloud ∙ first.cloud; total = second.total ∙ first.total }

-- that all is copied goes by the memory
still_all : (old new : CloudStore) (copies : Copies) → KeepsAllBut old new → AreAllCopied old copies.copying → AreAllCopied new copies.copying
still_all old new copies same is = subst (λ (s : CloudStore). AreAllCopied s copies.copying) (sym same) (record { places = is.places; entries = is.entries })

-- ---- what lies out of the copies' region

out_of : (start end : ℕ) (b : Placed) → start ≤ end → IsOutOf start b → (b.place + length b.blob ≤ end) ⊎ (start + region_len ≤ b.place)
out_of start end b le out = elim out [
  | inl front ↦ inl (further (b.place + length b.blob) start end front le)
  | inr behind ↦ inr behind
]

laid_behind : (start end : ℕ) (lens : List ℕ) → end ≡ end_of_laid start lens → start ≤ end
laid_behind start end lens is = subst (λ (n : ℕ). start ≤ n) (sym is) (laid_grows start lens)

spares_beside : (store : CloudStore) (copies : Copies) (old new : Cloud) → AreCopiesLaid store copies → KeepsBeside (at_copies store copies) old new → KeepsOtherRegion (copies_start store) old new
spares_beside store copies old new laid beside = record {
  journal = beside.journal;
  shares = λ b out at. beside.shares b (out_of (copies_start store) copies.shares_end b (laid_behind (copies_start store) copies.shares_end (lens_of (shares_so_far store copies.copying)) laid.shares_end) out) at;
  recipes = λ b out at. beside.recipes b (out_of (copies_start store) copies.recipes_end b (laid_behind (copies_start store) copies.recipes_end (entry_lens (entries_so_far store copies.copying)) laid.recipes_end) out) at;
}

spares_twice : (start : ℕ) (a b c : Cloud) → KeepsOtherRegion start a b → KeepsOtherRegion start b c → KeepsOtherRegion start a c
spares_twice start a b c first second = record {
  journal = second.journal ∙ first.journal;
  shares = λ p out at. second.shares p out (first.shares p out at);
  recipes = λ p out at. second.recipes p out (first.recipes p out at);
}

-- ---- the steps so far

-- The steps so far: all but the disk is as it was, and what a later call leaves is what all leave.
pub record SoFar (first now : CloudStore) (from to : Copies) (before after : ℕ → Cloud) (faults_before faults_after : ℕ) : Type 0 where
  pub opened : IsOpen now
  pub laid : AreCopiesLaid now to
  pub same : KeepsAllBut first now
  pub kept : (list : List Command) (c : Chain) → KeepsCopies list c first from (before first.header.cloud.0) → KeepsCopies list c now to (after first.header.cloud.0)
  pub moments : (list : List Command) (c : Chain) → KeepsCopies list c first from (before first.header.cloud.0) → (end : Cloud)
      → LeavesOnly (after first.header.cloud.0) end (λ image. StandsFor image first.header list)
      → LeavesOnly (before first.header.cloud.0) end (λ image. StandsFor image first.header list)
  pub spared : IsTrue (before first.header.cloud.0).told → KeepsOtherRegion (copies_start first) (before first.header.cloud.0) (after first.header.cloud.0)
  pub right : IsTrue (before first.header.cloud.0).told → AreCopiesRight first from (reads (before first.header.cloud.0).now) → AreCopiesRight first to (reads (after first.header.cloud.0).now)
  pub call : IsCall before after first.header.cloud.0 faults_before faults_after
  pub counts : KeepsCounts (before first.header.cloud.0) (after first.header.cloud.0) faults_before faults_after

pub no_steps : (first : CloudStore) (from : Copies) (clouds : ℕ → Cloud) (faults : ℕ) → IsOpen first → AreCopiesLaid first from → SoFar first first from from clouds clouds faults faults
no_steps first from clouds faults opened laid = record {
  opened = opened;
  laid = laid;
  same = refl;
  kept = λ list c is. is;
  moments = λ list c is end run. run;
  spared = λ told. record { journal = refl; shares = λ b out at. at; recipes = λ b out at. at };
  right = λ told is. is;
  call = record { others = λ other apart. refl; told = refl; armings = refl; later = omega arith; total_later = omega arith };
  counts = record { cloud = refl; total = refl };
}

module _ (Same : Type 0) (first mid new : CloudStore) (from through to : Copies) (a b c : ℕ → Cloud) (f0 f1 f2 : ℕ) (so : SoFar first mid from through a b f0 f1) where
  abbrev n : ℕ
  n = first.header.cloud.0

  abbrev Stands : List Command → Image → Type 0
  Stands list = λ image. StandsFor image first.header list

  -- the store between, as it is told by the first one
  abbrev between : CloudStore
  between = record first { disk = mid.disk }

  step_from : (r : Result Bool ReclaimErr) → StepsCopying Same mid new through to b c f1 f2 r → StepsCopying Same between new through to b c f1 f2 r
  step_from r = subst (λ (s : CloudStore). StepsCopying Same s new through to b c f1 f2 r) so.same

  kept_between : (list : List Command) (chain : Chain) → KeepsCopies list chain first from (a n) → KeepsCopies list chain between through (b n)
  kept_between list chain is = subst (λ (s : CloudStore). KeepsCopies list chain s through (b n)) so.same (so.kept list chain is)

  all_moments : (r : Result Bool ReclaimErr) → StepsCopying Same between new through to b c f1 f2 r → (list : List Command) (chain : Chain)
      → KeepsCopies list chain first from (a n) → LeavesOnly (a n) (c n) (Stands list)
  all_moments r s list chain is = so.moments list chain is (c n) (s.any_moment list chain (kept_between list chain is))

  laid_between : AreCopiesLaid between through
  laid_between = subst (λ (s : CloudStore). AreCopiesLaid s through) so.same so.laid

  spared_on : IsTrue (a n).told → KeepsBeside (at_copies between through) (b n) (c n) → KeepsOtherRegion (copies_start first) (a n) (c n)
  spared_on told beside = spares_twice (copies_start first) (a n) (b n) (c n) (so.spared told) (spares_beside between through (b n) (c n) laid_between beside)

  right_on : IsTrue (a n).told → HasCopied (at_copies between through) through.copying to.copying (reads (b n).now) (reads (c n).now) → KeepsBeside (at_copies between through) (b n) (c n)
      → AreCopiesRight first from (reads (a n).now) → AreCopiesRight first to (reads (c n).now)
  right_on told has beside is =
      let r = more_right between through to (b n) (c n) laid_between has beside (record { shares = (so.right told is).shares; entries = (so.right told is).entries }) in
      record { shares = r.shares; entries = r.entries }

  -- one more
  pub one_more : StepsCopying Same mid new through to b c f1 f2 (Ok true) → SoFar first new from to a c f0 f2
  one_more step =
      let s = step_from (Ok true) step in
      record {
        opened = s.stage;
        laid = s.laid;
        same = s.same;
        kept = λ list chain is. s.copied list chain (kept_between list chain is);
        moments = λ list chain is end run. joined (a n) (c n) end (Stands list) (all_moments (Ok true) s list chain is) run;
        spared = λ told. spared_on told (s.beside (told_on (a n) (b n) so.call.told told));
        right = λ told. right_on told (s.right (told_on (a n) (b n) so.call.told told)) (s.beside (told_on (a n) (b n) so.call.told told));
        call = called_twice a b c n f0 f1 f2 so.call s.call;
        counts = kept_twice (a n) (b n) (c n) f0 f1 f2 so.counts s.counts;
      }

  -- nothing was left
  pub all_done : StepsCopying Same mid new through to b c f1 f2 (Ok false) → CopiesAll first new from to a c f0 f2 (Ok tt)
  all_done step =
      let s = step_from (Ok false) step in
      record {
        any_moment = all_moments (Ok false) s;
        copied = λ list chain is. s.copied list chain (kept_between list chain is);
        answers = λ list chain is. tt;
        all = still_all between new to s.same s.step.0;
        laid = s.laid;
        rotten = λ told. tt;
        spared = λ told. spared_on told (s.beside (told_on (a n) (b n) so.call.told told));
        right = λ told. right_on told (s.right (told_on (a n) (b n) so.call.told told)) (s.beside (told_on (a n) (b n) so.call.told told));
        same = s.same;
        stage = s.stage;
        call = called_twice a b c n f0 f1 f2 so.call s.call;
        counts = kept_twice (a n) (b n) (c n) f0 f1 f2 so.counts s.counts;
      }

  -- it was given up
  pub given_up : (e : ReclaimErr) → StepsCopying Same mid new through to b c f1 f2 (Err e) → CopiesAll first new from to a c f0 f2 (Err e)
  given_up e step =
      let s = step_from (Err e) step in
      record {
        any_moment = all_moments (Err e) s;
        copied = λ list chain is. tt;
        answers = λ list chain is. done_too Bool (Unit {0}) e (s.answers list chain (kept_between list chain is));
        all = tt;
        right = λ told is. tt;
        laid = tt;
        rotten = λ told. rotten_too Bool (Unit {0}) e _ (s.rotten (told_on (a n) (b n) so.call.told told));
        spared = λ told. fault_too Bool (Unit {0}) e _ _ _ _ (s.beside (told_on (a n) (b n) so.call.told told)) (λ x. x) (spared_on told);
        same = s.same;
        stage = fault_too Bool (Unit {0}) e _ _ _ _ s.stage (λ x. x) (λ x. x);
        call = called_twice a b c n f0 f1 f2 so.call s.call;
        counts = fault_too Bool (Unit {0}) e _ _ _ _ s.counts (failed_after a b c n f0 f1 f2 so.call) (kept_twice (a n) (b n) (c n) f0 f1 f2 so.counts);
      }

-- A checkpoint while it is laid.
use Rattle.std.proofs.Common.{◌≡◌, ◌≢◌, inl, ℕ, ◌+◌, ◌≤◌, List, [], ◌∷◌, ◌++◌, length, map, Result, Ok, Err, IsTrue, sym, ap, ◌∙◌, subst, arith, append-nil, append_assoc}
use Rattle.std.specs.Prelude.{OnOk, OnErr}
use Rattle.std.proofs.lemmas.List.{nil_from_length}
use Rattle.cloud_disk.specs.CdEdges.area.Area.{Area}
use Rattle.cloud_disk.specs.CdEdges.area.Area.TheVariants.{Journal}
use Rattle.cloud_disk.specs.CdEdges.Disk.{Store, Image, Cloud, LeavesOnly, IsAtArea, MayLeave}
use Rattle.cloud_disk.specs.CdEdges.Shelf.{IsCall, HasFailed, KeepsCounts}
use Rattle.cloud_disk.proofs.CdEdges.Calls.{called_twice, failed_after}
use Rattle.cloud_disk.proofs.CdEdges.Moments.{weaker, joined, told_on}
use Rattle.cloud_disk.specs.JournalStart.start.Header.{Header}
use Rattle.cloud_disk.specs.JournalHalves.Journals.{Where, HasChain, IsEither, with_body}
use Rattle.cloud_disk.specs.CommitJournal.Turning.{used_of}
use Rattle.cloud_disk.specs.CommitJournal.journal.Stage.TheVariants.{Laying}
use Rattle.cloud_disk.specs.CommitJournal.States.{JournalState, IsJournalEnded, IsLaying}
use Rattle.cloud_memory.specs.RecordBody.Spelling.{Body, Put, Commit, Delete, Kept, Spent, body_bytes}
use Rattle.checkpoints.specs.Laying.{records_len, IsNextInBuffer, with_bodies, checkpoint_behind}

-- ---- images

abbrev Chained : Cloud → Where → Image → Type 0
Chained c w = IsAtArea c.now Journal (λ image. HasChain image w)

abbrev Either : Cloud → Where → Where → Image → Type 0
Either c w next = IsAtArea c.now Journal (IsEither w next)

-- the other areas were as they are
at_start : (a b : Cloud) (Q : List ℕ → Type 0) → ((other : Area) → other ≢ Journal → b.now other ≡ a.now other) → (image : Image) → IsAtArea b.now Journal Q image → IsAtArea a.now Journal Q image
at_start a b Q others image at = record {
  area = at.area;
  others = λ other ne. subst (λ (s : Store). MayLeave s (image other)) (others other ne) (at.others other ne);
}

pub still_either : (a b : Cloud) (w next : Where) → LeavesOnly a b (Chained a w) → LeavesOnly a b (Either a w next)
still_either a b w next run = weaker a b (Chained a w) (Either a w next) run (λ image at. record { area = inl at.area; others = at.others })

-- ---- the checkpoint so far

-- These records are to be laid yet, and then it is whole.
pub record StillLaying (state : JournalState) (store : Store) (w whole : Where) (rest : List Body) : Type 0 where
  pub so_far : Where
  pub laying : IsLaying state store w so_far
  pub whole_is : with_bodies so_far rest ≡ whole

pub record Along (a b : ℕ → Cloud) (number before now : ℕ) (first state : JournalState) (header : Header) (commands count region : ℕ) (all rest : List Body) (index : ℕ) : Type 0 where
  pub call : IsCall a b number before now
  pub counts : KeepsCounts (a number) (b number) before now
  pub stage : state.stage ≡ Laying
  pub limit : state.limit ≡ first.limit
  pub left : state.laid.left ≡ length rest
  pub to_come : length rest + index ≡ count
  pub room : used_of state.laid + records_len rest ≡ 63 + records_len all
  pub others : IsTrue (a number).told → (other : Area) → other ≢ Journal → (b number).now other ≡ (a number).now other
  pub images : IsTrue (a number).told → (w : Where) → IsJournalEnded first ((a number).now Journal) w → LeavesOnly (a number) (b number) (Chained (a number) w)
  pub laid : IsTrue (a number).told → (w : Where) → IsJournalEnded first ((a number).now Journal) w
      → StillLaying state ((b number).now Journal) w (checkpoint_behind w header commands count region all) rest

-- one record more of it
with_next : (w : Where) (body : Body) (bytes : List ℕ) (rest : List Body) → bytes ≡ body_bytes body → with_bodies (with_body w bytes) rest ≡ with_bodies w (body ∷ rest)
with_next w body bytes rest is = λ i. record { half = w.half; start = w.start; bodies = (append_assoc w.bodies (bytes ∷ []) (map body_bytes rest) ∙ ap (λ (b : List ℕ). w.bodies ++ b ∷ map body_bytes rest) is) i }

pub body_some : (body : Body) → 1 ≤ length (body_bytes body)
body_some (Put user items) = omega arith
body_some (Commit commit) = omega arith
body_some (Delete delete) = omega arith
body_some (Kept items) = omega arith
body_some (Spent spent) = omega arith

pub next_some : (old new : List Body) (bytes : List ℕ) → IsNextInBuffer old new bytes → 1 ≤ length bytes
next_some old new bytes n = omega (arith, ap (λ (l : List ℕ). length l) n.is_body.spelled, body_some n.body)

pub next_len : (old new : List Body) (bytes : List ℕ) → IsNextInBuffer old new bytes → records_len old ≡ length bytes + 5 + records_len new
next_len old new bytes n = omega (arith, ap (λ (l : List ℕ). length l) n.is_body.spelled, ap records_len n.front)

pub next_count : (old new : List Body) (bytes : List ℕ) → IsNextInBuffer old new bytes → length old ≡ length new + 1
next_count old new bytes n = omega (arith, ap (λ (l : List Body). length l) n.front)

module _ (a b c : ℕ → Cloud) (number before mid now : ℕ) (first state after : JournalState) (header : Header) (commands count region : ℕ) (all rest left : List Body) (bytes : List ℕ) (index : ℕ)
    (along : Along a b number before mid first state header commands count region all rest index) (n : IsNextInBuffer rest left bytes) where
  -- the images while it is laid
  pub laid_images : (IsTrue (b number).told → (w next : Where) → IsLaying state ((b number).now Journal) w next → LeavesOnly (b number) (c number) (Chained (b number) w))
      → IsTrue (a number).told → (w : Where) → IsJournalEnded first ((a number).now Journal) w → LeavesOnly (a number) (c number) (Chained (a number) w)
  laid_images run told w is =
      joined (a number) (b number) (c number) (Chained (a number) w) (along.images told w is)
      (weaker (b number) (c number) (Chained (b number) w) (Chained (a number) w) (run (told_on (a number) (b number) along.call.told told) w (along.laid told w is).so_far (along.laid told w is).laying)
      (λ image at. at_start (a number) (b number) (λ image. HasChain image w) (along.others told) image at))

  pub further : IsCall b c number mid now → KeepsCounts (b number) (c number) mid now → after.stage ≡ Laying → after.limit ≡ state.limit
      → after.laid.left + 1 ≡ state.laid.left → used_of after.laid ≡ used_of state.laid + length bytes + 5
      → (IsTrue (b number).told → (other : Area) → other ≢ Journal → (c number).now other ≡ (b number).now other)
      → (IsTrue (b number).told → (w next : Where) → IsLaying state ((b number).now Journal) w next → LeavesOnly (b number) (c number) (Chained (b number) w))
      → (IsTrue (b number).told → (w next : Where) → IsLaying state ((b number).now Journal) w next → IsLaying after ((c number).now Journal) w (with_body next bytes))
      → Along a c number before now first after header commands count region all left (index + 1)
  further call counts stage limit less used others images laid = record {
    call = called_twice a b c number before mid now along.call call;
    counts = record { cloud = counts.cloud ∙ along.counts.cloud; total = counts.total ∙ along.counts.total };
    stage = stage;
    limit = limit ∙ along.limit;
    left = omega (arith, less, along.left, next_count rest left bytes n);
    to_come = omega (arith, along.to_come, next_count rest left bytes n);
    room = omega (arith, along.room, used, next_len rest left bytes n);
    others = λ told other ne. others (told_on (a number) (b number) along.call.told told) other ne ∙ along.others told other ne;
    images = laid_images images;
    laid = λ told w is.
        let s = along.laid told w is in record {
          so_far = with_body s.so_far bytes;
          laying = laid (told_on (a number) (b number) along.call.told told) w s.so_far s.laying;
          whole_is = with_next s.so_far n.body bytes left n.is_body.spelled ∙ ap (with_bodies s.so_far) (sym n.front) ∙ s.whole_is;
        };
  }

-- ---- at the end

with_none : (w : Where) → with_bodies w [] ≡ w
with_none w = λ i. record { half = w.half; start = w.start; bodies = append-nil w.bodies i }

module _ (a b c : ℕ → Cloud) (number before mid now : ℕ) (first state after : JournalState) (header : Header) (commands count region : ℕ) (all rest : List Body) (index : ℕ)
    (along : Along a b number before mid first state header commands count region all rest index) (at_end : count ≤ index) where
  pub none_left : rest ≡ []
  none_left = nil_from_length rest (omega (arith, along.to_come, at_end))

  pub all_laid : state.laid.left ≡ 0
  all_laid = along.left ∙ ap (λ (l : List Body). length l) none_left

  pub all_used : used_of state.laid ≡ 63 + records_len all
  all_used = omega (arith, along.room, ap records_len none_left)

  -- the whole of it is laid
  laid_whole : IsTrue (a number).told → (w : Where) → IsJournalEnded first ((a number).now Journal) w → IsLaying state ((b number).now Journal) w (checkpoint_behind w header commands count region all)
  laid_whole told w is =
      let s = along.laid told w is in
      subst (λ (v : Where). IsLaying state ((b number).now Journal) w v) (sym (with_none s.so_far) ∙ ap (with_bodies s.so_far) (sym none_left) ∙ s.whole_is) s.laying

  pub settled_images : (IsTrue (b number).told → (w next : Where) → IsLaying state ((b number).now Journal) w next → LeavesOnly (b number) (c number) (Either (b number) w next))
      → IsTrue (a number).told → (w : Where) → IsJournalEnded first ((a number).now Journal) w → LeavesOnly (a number) (c number) (Either (a number) w (checkpoint_behind w header commands count region all))
  settled_images run told w is =
      let next = checkpoint_behind w header commands count region all in
      joined (a number) (b number) (c number) (Either (a number) w next) (still_either (a number) (b number) w next (along.images told w is))
      (weaker (b number) (c number) (Either (b number) w next) (Either (a number) w next) (run (told_on (a number) (b number) along.call.told told) w next (laid_whole told w is))
      (λ image at. at_start (a number) (b number) (IsEither w next) (along.others told) image at))

  pub settled_on : {T E : Type 0} (r : Result T E) → (IsTrue (b number).told → (w next : Where) → IsLaying state ((b number).now Journal) w next → OnOk r (IsJournalEnded after ((c number).now Journal) next))
      → IsTrue (a number).told → (w : Where) → IsJournalEnded first ((a number).now Journal) w → OnOk r (IsJournalEnded after ((c number).now Journal) (checkpoint_behind w header commands count region all))
  settled_on r run told w is = run (told_on (a number) (b number) along.call.told told) w (checkpoint_behind w header commands count region all) (laid_whole told w is)

-- ---- a call behind one that was Ok

pub others_on : {T E : Type 0} (r : Result T E) (a b c : Cloud) → ((other : Area) → other ≢ Journal → b.now other ≡ a.now other)
    → OnOk r ((other : Area) → other ≢ Journal → c.now other ≡ b.now other) → OnOk r ((other : Area) → other ≢ Journal → c.now other ≡ a.now other)
others_on (Ok v) a b c first second = λ other ne. second other ne ∙ first other ne
others_on (Err e) a b c first second = tt

pub gate_on : {T E : Type 0} (r : Result T E) (gate used all : ℕ) → used ≡ all → OnOk r (gate ≡ used) → OnOk r (gate ≡ all)
gate_on (Ok v) gate used all same is = is ∙ same
gate_on (Err e) gate used all same is = tt

-- the same where the second call failed, whatever the error becomes
pub failed_as : {T E : Type 0} (r : Result T E) (a b c : ℕ → Cloud) (number before mid now : ℕ) → IsCall a b number before mid
    → HasFailed (b number) (c number) mid now → OnErr r (HasFailed (a number) (c number) before now)
failed_as (Ok v) a b c number before mid now first second = tt
failed_as (Err e) a b c number before mid now first second = failed_after a b c number before mid now first second

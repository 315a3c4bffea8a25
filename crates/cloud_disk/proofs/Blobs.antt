-- Blobs at their places, before an end and behind it.
use Rattle.std.proofs.Common.{ℕ, ◌+◌, ◌≤◌, List, [], ◌∷◌, ◌++◌, length, arith}
use Rattle.std.specs.Prelude.{All, slice_index_or}
use Rattle.std.proofs.lemmas.List.Elements.{All-nil, All-cons, All-append, All-weaker, All-head, All-tail}
use Rattle.commit_journal.specs.CdEdges.Shelf.{stable}
use Rattle.cloud_areas.specs.ContainerLog.Kept.{KeepsBelow}
use Rattle.cloud_areas.specs.ContainerLog.Places.{place_of, end_after, end_of_laid}
use Rattle.cloud_areas.specs.ContainerLog.Laying.{Placed, lengths, placed, IsAt}
use Rattle.cloud_areas.proofs.ContainerLog.Blobs.{crashed_at}
use Rattle.cloud_areas.proofs.ContainerLog.Least.{place_behind}
use Rattle.cloud_disk.specs.Held.{IsBelow, AreBelow, LieIn}

pub end_behind : (end : ℕ) (blobs : List (List ℕ)) → end ≤ end_of_laid end (lengths blobs)
end_behind end [] = omega arith
end_behind end (s ∷ blobs) = omega (arith, place_behind end (length s), end_behind (end_after end (length s)) blobs)

-- what is laid in order ends where its lengths say
pub placed_below : (end : ℕ) (blobs : List (List ℕ)) → AreBelow (end_of_laid end (lengths blobs)) (placed end blobs)
placed_below end [] = All-nil (IsBelow end)
placed_below end (s ∷ blobs) = All-cons (IsBelow (end_of_laid (end_after end (length s)) (lengths blobs))) (record { place = place_of end (length s); blob = s }) (placed (end_after end (length s)) blobs) (end_behind (end_after end (length s)) blobs) (placed_below (end_after end (length s)) blobs)

pub below_more : (end later : ℕ) (blobs : List Placed) → end ≤ later → AreBelow end blobs → AreBelow later blobs
below_more end later blobs le all = All-weaker (IsBelow end) (IsBelow later) (λ (b : Placed) (below : IsBelow end b). omega (arith, le, below)) blobs all

pub below_both : (end : ℕ) (one two : List Placed) → AreBelow end one → AreBelow end two → AreBelow end (one ++ two)
below_both end one two = All-append (IsBelow end) one two

pub lie_both : (bytes : List ℕ) (one two : List Placed) → LieIn one bytes → LieIn two bytes → LieIn (one ++ two) bytes
lie_both bytes one two = All-append (IsAt bytes) one two

pub all_left : {A : Type 0} (P : A → Type 0) (xs ys : List A) → All P (xs ++ ys) → All P xs
all_left P [] ys all = All-nil P
all_left P (x ∷ xs) ys all = All-cons P x xs (All-head P x (xs ++ ys) all) (all_left P xs ys (All-tail P x (xs ++ ys) all))

pub all_right : {A : Type 0} (P : A → Type 0) (xs ys : List A) → All P (xs ++ ys) → All P ys
all_right P [] ys all = all
all_right P (x ∷ xs) ys all = all_right P xs ys (All-tail P x (xs ++ ys) all)

-- the first blobs of some
pub front_lies : (bytes : List ℕ) (one two : List Placed) → LieIn (one ++ two) bytes → LieIn one bytes
front_lies bytes one two = all_left (IsAt bytes) one two

-- a crash leaves what lay before the end
pub crashed_all : (old image : List ℕ) (end : ℕ) (blobs : List Placed) → KeepsBelow end (stable old) image → AreBelow end blobs → LieIn blobs old → LieIn blobs image
crashed_all old image end blobs keeps below all = λ k d lt. crashed_at old image end (slice_index_or blobs k d) (below k d lt) (all k d lt) keeps

-- and so does a step that leaves each blob before the end
pub stay_all : (old new : List ℕ) (end : ℕ) (blobs : List Placed) → ((b : Placed) → b.place + length b.blob ≤ end → IsAt old b → IsAt new b) → AreBelow end blobs → LieIn blobs old → LieIn blobs new
stay_all old new end blobs step below all = λ k d lt. step (slice_index_or blobs k d) (below k d lt) (all k d lt)

-- What the code keeps of the refusals of a call.
use Rattle.std.specs.Prelude.{◌≡◌, ℕ, Bool, true, false, List, [], ◌∷◌, slice_index_or, slice_set, Option, Some, None}
use Rattle.std.specs.List.{Contains}
use Rattle.restore_job.specs.declared.error.RestoreErr.{RestoreErr}
use Rattle.subset_restore.specs.Tries.{Try, HasRefused}
use Rattle.subset_restore.specs.declared.refusals.Refusals.{Refusals}

-- the cloud with this number is marked
abbrev pub IsMarked : List Bool → ℕ → Type 0
IsMarked marks cloud = slice_index_or marks cloud false ≡ true

-- one of these is marked
abbrev pub HoldsMarked : List Bool → List ℕ → Type 0
HoldsMarked marks clouds = (cloud : ℕ) × Contains clouds cloud × IsMarked marks cloud

-- the marks with that of one more cloud
abbrev pub marked_with : List Bool → Option ℕ → List Bool
marked_with marks None = marks
marked_with marks (Some cloud) = slice_set marks cloud true

-- the first of refusals, with one more behind them
abbrev pub first_or : Option RestoreErr → RestoreErr → Option RestoreErr
first_or None refusal = Some refusal
first_or (Some first) refusal = Some first

abbrev pub first_of : List Try → Option RestoreErr
first_of [] = None
first_of (x ∷ tries) = Some x.refusal

-- the marked clouds are those that refused in these tries, and their first refusal is kept
pub record Tracks (tries : List Try) (refusals : Refusals) : Type 0 where
  pub only : (cloud : ℕ) → IsMarked refusals.marks cloud → HasRefused tries cloud
  pub each : (cloud : ℕ) → HasRefused tries cloud → IsMarked refusals.marks cloud
  pub first : refusals.first ≡ first_of tries

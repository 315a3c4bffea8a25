-- Which choices of clouds were tried, and which were passed over.
use Rattle.std.specs.Prelude.{◌≡◌, ◌≢◌, ℕ, List, [], ◌∷◌, ◌++◌, Option, Some, None}
use Rattle.std.specs.List.{Contains}
use Rattle.restore_job.specs.declared.error.RestoreErr.{RestoreErr}
use Rattle.restore_job.specs.declared.error.RestoreErr.TheVariants as errors

-- a choice of clouds from which a restore was refused
pub record Try : Type 0 where
  pub subset : List ℕ
  pub refusal : RestoreErr

-- The cloud that refused. Recipes that differ and a secret that doesn't open are no cloud's refusal.
abbrev pub refuser : RestoreErr → Option ℕ
refuser (errors.Missing c) = Some c.0
refuser (errors.Lost c) = Some c.0
refuser (errors.CloudFault c) = Some c.0
refuser (errors.CloudDamaged c at byte) = Some c.0
refuser (errors.CloudRotten c named found) = Some c.0
refuser (errors.CloudNoMemory c) = Some c.0
refuser (errors.Strange c kind) = Some c.0
refuser (errors.RecipesDiffer a b place) = None
refuser (errors.ShareLength c secret found wanted) = Some c.0
refuser (errors.BadShare c secret named found) = Some c.0
refuser (errors.BadSecret secret named found) = None
refuser (errors.BadPad secret at byte) = None
refuser errors.NoMemory = None

-- the cloud refused in one of these tries
abbrev pub HasRefused : List Try → ℕ → Type 0
HasRefused tries cloud = (x : Try) × Contains tries x × (refuser x.refusal ≡ Some cloud)

-- one of the chosen clouds refused in one of these tries
abbrev pub HoldsRefuser : List Try → List ℕ → Type 0
HoldsRefuser tries subset = (cloud : ℕ) × Contains subset cloud × HasRefused tries cloud

-- the restore from these clouds was refused
abbrev pub WasTried : List Try → List ℕ → Type 0
WasTried tries subset = (x : Try) × Contains tries x × (x.subset ≡ subset)

-- These choices were gone through in order: one with a cloud that had refused was passed over, and each other was tried
-- and refused.
pub data GoneThrough : List (List ℕ) → List Try → Type 0 where
  NoneYet : GoneThrough [] []
  Passed : (done : List (List ℕ)) (tries : List Try) (subset : List ℕ) → GoneThrough done tries → HoldsRefuser tries subset
      → GoneThrough (done ++ subset ∷ []) tries
  Refused : (done : List (List ℕ)) (tries : List Try) (subset : List ℕ) (e : RestoreErr) → GoneThrough done tries
      → (HoldsRefuser tries subset → ⊥) → e ≢ errors.NoMemory
      → GoneThrough (done ++ subset ∷ []) (tries ++ record { subset = subset; refusal = e } ∷ [])

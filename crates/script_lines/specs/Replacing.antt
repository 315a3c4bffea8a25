-- A replacement over the servers of this process.
use Rattle.std.specs.Prelude.{◌≡◌, ℕ, List, [], Result, Ok, Err}
use Rattle.recipe.specs.CdBase.ids.CloudNo.{CloudNo}
use Rattle.session_model.specs.CdEdges.Causes.{Rose}
use Rattle.session_model.specs.CdEdges.Disk.{Cloud}
use Rattle.session_model.specs.CommitJournal.errors.OpenErr.{OpenErr}
use Rattle.session_model.specs.UploadJob.Lanes.{LaneView}
use Rattle.session_model.specs.LocalLink.link.LocalLink.{LocalLink}
use Rattle.session_model.specs.Session.event.Event.{Event}
use Rattle.session_model.specs.Session.event.Event.TheVariants as events
use Rattle.session_model.specs.Transcript.line.Line.{Line}
use Rattle.session_model.specs.Transcript.line.Line.TheVariants as lines
use Rattle.session_model.specs.Vault.{Setting, Vault}
use Rattle.session_model.specs.Steps.{cloud_no}
use Rattle.script_lines.specs.declared.error.CarryErr.{CarryErr}
use Rattle.script_lines.specs.declared.error.CarryErr.TheVariants as carry_errors
use Rattle.script_lines.specs.At.{IsAtVault}
use Rattle.script_lines.specs.Does.{IsLineCut}
use Rattle.script_lines.specs.Stepping.{IsOpeningLine}

-- the line of a new store whose first opening ended so: where it didn't begin the store, that of an opening
abbrev pub IsNewStore : ℕ → Result ℕ OpenErr → Line → Type 0
IsNewStore cloud (Ok commands) line = line ≡ lines.Replaced (cloud_no cloud)
IsNewStore cloud (Err error) line = IsOpeningLine cloud (Err error) line

-- The cloud's areas couldn't be made empty: all clouds are as they were, but that its count rose.
pub record FailsFresh {V : Type 0} (clouds : V → ℕ → Cloud) (s : Setting) (event : Event) (cloud : CloudNo)
    (old new : LocalLink V) (v : Vault) : Type 0 where
  pub cut : IsLineCut clouds s event old new v
  pub moments_are : cut.moments ≡ []
  pub last_is : cut.last ≡ v.peers
  pub rose : Rose (cut.last cloud.0).faults (clouds new.shelf.now cloud.0).faults

-- An error for the shelf comes at a replacement alone, and names its cloud.
abbrev pub IsShelfFault : {V : Type 0} → (V → ℕ → Cloud) → Event → LocalLink V → List (List LaneView) → LocalLink V
    → CarryErr → Type 0
IsShelfFault clouds event old old_jobs new (carry_errors.ShelfFault cloud) =
    (event ≡ events.Replace cloud)
    × ((s : Setting) (v : Vault) → IsAtVault clouds s old old_jobs v → FailsFresh clouds s event cloud old new v)
IsShelfFault clouds event old old_jobs new carry_errors.NoMemory = Unit {0}

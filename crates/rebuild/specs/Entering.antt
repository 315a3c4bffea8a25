-- What becomes of one entry of the first cloud.
use Rattle.std.specs.Prelude.{◌≡◌, ℕ, ◌+◌, Bool, true, false, List, [], ◌∷◌, Option, Some, None, Result, Ok, Err, ◌⊎◌}
use Rattle.lane_steps.specs.CdBase.ids.Tag.{Tag}
use Rattle.lane_steps.specs.CdBase.ids.UserId.{UserId}
use Rattle.lane_steps.specs.CdBase.ids.Version.{Version}
use Rattle.lane_steps.specs.CdBase.shape.Shape.{Shape}
use Rattle.lane_steps.specs.Messages.request.Request.{Request}
use Rattle.lane_steps.specs.Messages.reply.Reply.{Reply}
use Rattle.lane_steps.specs.UserDedup.command.Command.{Command}
use Rattle.lane_steps.specs.UserDedup.Dedup.{Outcome}
use Rattle.lane_steps.specs.UserDedup.Exec.{Peer}
use Rattle.lane_steps.specs.UploadJob.Upload.{FileVersion}
use Rattle.lane_steps.specs.Runs.{LaneTurn}
use Rattle.kept_files.specs.RestoreJob.error.RestoreErr.{RestoreErr}
use Rattle.kept_files.specs.RestoreJob.error.RestoreErr.TheVariants as refusals
use Rattle.rebuild.specs.declared.error.SkipWhy.{SkipWhy}
use Rattle.rebuild.specs.declared.error.SkipWhy.TheVariants as whys
use Rattle.rebuild.specs.declared.error.RebuildErr.{RebuildErr}
use Rattle.rebuild.specs.declared.error.RebuildErr.TheVariants as errors
use Rattle.rebuild.specs.Found.{Finding}
use Rattle.rebuild.specs.Rebuilding.{Progressed, with_skip, BringsOne, StopsAs}
use Rattle.rebuild.specs.Filling.{IsFilledFurther}
use Rattle.rebuild.specs.Steps.{IsVersionFound, ReadEnds}

-- a refusal of a cloud that is read, as an error of the rebuild
abbrev pub stopped_as : RestoreErr → RebuildErr
stopped_as refusals.NoMemory = errors.NoMemory
stopped_as e = errors.FromRestore e

-- what became of a version that the target was brought: no skip, or that it has another
abbrev pub entered_as : Bool → Option SkipWhy
entered_as true = None
entered_as false = Some whys.TargetExists

-- with one entry more, that was brought or skipped
abbrev pub noted : Tag × Version → Option SkipWhy → Progressed → Progressed
noted key None r = record { files = r.files + 1; skips = r.skips; stop = None }
noted key (Some why) r = with_skip key why r

-- it was cut behind these turns, whatever entries are left, and would go on so
abbrev pub EntryCut : Shape → ℕ → (List Command → Request → Outcome) → Tag × Version → Result FileVersion SkipWhy → Peer → List (LaneTurn Peer) → Peer → Type 0
EntryCut shape target serve key found start turns at =
    (fs : List Finding) (r : Progressed) → r.stop ≡ None
    → IsFilledFurther shape target serve (record { key = key; found = found } ∷ fs) r start turns at

-- the target's reply stopped it
abbrev pub EntryStops : Shape → ℕ → (List Command → Request → Outcome) → Tag × Version → Result FileVersion SkipWhy → RebuildErr → Peer → List (LaneTurn Peer) → Peer → Type 0
EntryStops shape target serve key found e start turns end =
    (said : Reply) × StopsAs said e
    × ((r : Progressed) → (next : Progressed) × BringsOne shape target serve key found r start turns next end × (next.stop ≡ Some said))

-- what was found under the key was brought to the told target, or skipped
abbrev pub EntryBrought : Shape → ℕ → (List Command → Request → Outcome) → Tag × Version → Result FileVersion SkipWhy → Result (Option SkipWhy) RebuildErr → List (LaneTurn Peer) → Peer → Peer → Peer → Type 0
EntryBrought shape target serve key found (Ok skip) turns start at end =
    (r : Progressed) → BringsOne shape target serve key found r start turns (noted key skip r) end
EntryBrought shape target serve key found (Err errors.NoMemory) turns start at end = EntryCut shape target serve key found start turns at
EntryBrought shape target serve key found (Err errors.TargetLost) turns start at end = EntryCut shape target serve key found start turns at
EntryBrought shape target serve key found (Err e) turns start at end = EntryStops shape target serve key found e start turns end

-- the target had no turn
abbrev pub NoTurn : List (LaneTurn Peer) → Peer → Peer → Peer → Type 0
NoTurn turns start at end = (turns ≡ []) × (at ≡ start) × (end ≡ start)

-- this is found under the key, and so brought
abbrev pub EntryFound : Shape → UserId → ℕ → (List Command → Request → Outcome) → List ℕ → Tag × Version → Result (Option SkipWhy) RebuildErr → List (LaneTurn Peer) → (ℕ → Peer) → Peer → (ℕ → Peer) → Type 0
EntryFound shape user target serve from key result turns before at after =
    (found : Result FileVersion SkipWhy) × IsVersionFound shape user from key found before after
    × EntryBrought shape target serve key found result turns (before target) at (after target)

-- An entry of told clouds. Where a cloud that is read stopped it, or memory ran out before anything was found, the target had no turn.
abbrev pub EntryTold : Shape → UserId → ℕ → (List Command → Request → Outcome) → List ℕ → Tag × Version → Result (Option SkipWhy) RebuildErr → List (LaneTurn Peer) → (ℕ → Peer) → Peer → (ℕ → Peer) → Type 0
EntryTold shape user target serve from key (Err (errors.FromRestore e)) turns before at after =
    NoTurn turns (before target) at (after target) × ReadEnds from e before after
EntryTold shape user target serve from key (Err errors.NoMemory) turns before at after =
    NoTurn turns (before target) at (after target) ⊎ EntryFound shape user target serve from key (Err errors.NoMemory) turns before at after
EntryTold shape user target serve from key result turns before at after = EntryFound shape user target serve from key result turns before at after

-- What becomes of some entries of the first cloud, one after another.
use Rattle.std.specs.Prelude.{◌≡◌, ℕ, List, ◌++◌, map, Some, None, Result, Ok, Err}
use Rattle.std.specs.List.{Contains}
use Rattle.lane_steps.specs.CdBase.ids.Tag.{Tag}
use Rattle.lane_steps.specs.CdBase.ids.UserId.{UserId}
use Rattle.lane_steps.specs.CdBase.ids.Version.{Version}
use Rattle.lane_steps.specs.CdBase.shape.Shape.{Shape}
use Rattle.lane_steps.specs.Messages.request.Request.{Request}
use Rattle.lane_steps.specs.Messages.reply.Reply.{Reply}
use Rattle.lane_steps.specs.UserDedup.command.Command.{Command}
use Rattle.lane_steps.specs.UserDedup.Dedup.{Outcome}
use Rattle.lane_steps.specs.UserDedup.Exec.{Peer}
use Rattle.lane_steps.specs.Runs.{LaneTurn}
use Rattle.rebuild.specs.declared.error.RebuildErr.{RebuildErr}
use Rattle.rebuild.specs.declared.error.RebuildErr.TheVariants as errors
use Rattle.rebuild.specs.declared.skips.Rebuilt.{Rebuilt}
use Rattle.rebuild.specs.Found.{Finding}
use Rattle.rebuild.specs.Rebuilding.{Progressed, BringsAll, IsFrontOfList, StopsAs}
use Rattle.rebuild.specs.Filling.{IsFilledFurther}
use Rattle.rebuild.specs.Steps.{IsVersionFound, ReadEnds}

-- how far it has come
abbrev pub progress_of : Rebuilt → Progressed
progress_of rebuilt = record { files = rebuilt.files; skips = rebuilt.skipped; stop = None }

-- all of it, where it came to its end
abbrev pub whole : Rebuilt → Result (Unit {0}) RebuildErr → Result Rebuilt RebuildErr
whole rebuilt (Ok u) = Ok rebuilt
whole rebuilt (Err e) = Err e

abbrev pub keys_of : List Finding → List (Tag × Version)
keys_of found = map (λ f. f.key) found

-- each is what is found under its key
abbrev pub AllFound : Shape → UserId → List ℕ → List Finding → (ℕ → Peer) → (ℕ → Peer) → Type 0
AllFound shape user from found before after = (f : Finding) → Contains found f → IsVersionFound shape user from f.key f.found before after

-- What was found under the first of some keys was brought to the told target, or skipped.
pub record KeysBrought (shape : Shape) (user : UserId) (target : ℕ) (serve : List Command → Request → Outcome) (from : List ℕ) (keys : List (Tag × Version)) (r last : Progressed) (turns : List (LaneTurn Peer)) (before after : ℕ → Peer) : Type 0 where
  pub found : List Finding
  pub front : IsFrontOfList (keys_of found) keys
  pub each : AllFound shape user from found before after
  pub brings : BringsAll shape target serve found r (before target) turns last (after target)

-- It was cut: what was found under the first keys had been brought, and what was found under the next one, if it was, would be, and
-- then whatever is left.
pub record KeysCut (shape : Shape) (user : UserId) (target : ℕ) (serve : List Command → Request → Outcome) (from : List ℕ) (keys : List (Tag × Version)) (r : Progressed) (turns : List (LaneTurn Peer)) (before : ℕ → Peer) (at : Peer) (after : ℕ → Peer) : Type 0 where
  pub found : List Finding
  pub ahead : List Finding
  pub front : IsFrontOfList (keys_of (found ++ ahead)) keys
  pub each : AllFound shape user from (found ++ ahead) before after
  pub last : Progressed
  pub mid : Peer
  pub turns_before : List (LaneTurn Peer)
  pub turns_behind : List (LaneTurn Peer)
  pub split : turns ≡ turns_before ++ turns_behind
  pub brings : BringsAll shape target serve found r (before target) turns_before last mid
  pub none : last.stop ≡ None
  pub goes : (fs : List Finding) → IsFilledFurther shape target serve (ahead ++ fs) last mid turns_behind at

-- The entries of told clouds under these keys, from this state of a rebuild on to the next.
abbrev pub KeysTold : Shape → UserId → ℕ → (List Command → Request → Outcome) → List ℕ → List (Tag × Version) → Progressed → Progressed → Result (Unit {0}) RebuildErr → List (LaneTurn Peer) → (ℕ → Peer) → Peer → (ℕ → Peer) → Type 0
KeysTold shape user target serve from keys r next (Ok u) turns before at after =
    (x : KeysBrought shape user target serve from keys r next turns before after) × (keys_of x.found ≡ keys)
KeysTold shape user target serve from keys r next (Err (errors.FromRestore e)) turns before at after =
    (last : Progressed) × KeysBrought shape user target serve from keys r last turns before after × (last.stop ≡ None) × ReadEnds from e before after
KeysTold shape user target serve from keys r next (Err errors.NoMemory) turns before at after = KeysCut shape user target serve from keys r turns before at after
KeysTold shape user target serve from keys r next (Err errors.TargetLost) turns before at after = KeysCut shape user target serve from keys r turns before at after
KeysTold shape user target serve from keys r next (Err e) turns before at after =
    (last : Progressed) × (said : Reply) × KeysBrought shape user target serve from keys r last turns before after × (last.stop ≡ Some said) × StopsAs said e

-- The target's lane for one version.
use Rattle.std.specs.Prelude.{◌≡◌, ℕ, Bool, true, false, List, [], ◌∷◌, ◌++◌, Option, Some, None, Result, Ok, Err, ◌⊎◌}
use Rattle.lane_steps.specs.CdEdges.Causes.{Rose}
use Rattle.lane_steps.specs.CdBase.ids.Tag.{Tag}
use Rattle.lane_steps.specs.CdBase.ids.Version.{Version}
use Rattle.lane_steps.specs.CdBase.shape.Shape.{Shape}
use Rattle.lane_steps.specs.Messages.request.Request.{Request}
use Rattle.lane_steps.specs.Messages.reply.Reply.{Reply}
use Rattle.lane_steps.specs.Messages.reply.Reply.TheVariants as replies
use Rattle.lane_steps.specs.UserDedup.command.Command.{Command}
use Rattle.lane_steps.specs.UserDedup.Dedup.{Outcome}
use Rattle.lane_steps.specs.UserDedup.Exec.{Peer, Exec, CountsOn}
use Rattle.lane_steps.specs.UploadJob.news.LaneNews.{LaneNews}
use Rattle.lane_steps.specs.UploadJob.news.LaneNews.TheVariants as news
use Rattle.lane_steps.specs.UploadJob.Upload.{FileVersion}
use Rattle.lane_steps.specs.UploadJob.Lane.{LaneState, Done, Refused}
use Rattle.lane_steps.specs.Runs.{LaneTurn, Progress, LaneRun}
use Rattle.lane_steps.specs.declared.error.StepErr.{StepErr}
use Rattle.lane_steps.specs.declared.error.StepErr.TheVariants as step_errors
use Rattle.rebuild.specs.declared.error.RebuildErr.{RebuildErr}
use Rattle.rebuild.specs.declared.error.RebuildErr.TheVariants as errors
use Rattle.rebuild.specs.Found.{Finding}
use Rattle.rebuild.specs.Rebuilding.{Progressed, lane_ended, lane_of, last_said, BringsAll, ComesBefore, IsNoLack, StopsAs}
use Rattle.rebuild.specs.Turns.{OfReply, SaidLast}

-- the last of some news
abbrev pub last_of : List LaneNews → Option LaneNews
last_of [] = None
last_of (told ∷ []) = Some told
last_of (told ∷ next ∷ more) = last_of (next ∷ more)

-- why a lane made no step, as an error of the rebuild
abbrev pub failed_as : StepErr → RebuildErr
failed_as step_errors.Lost = errors.TargetLost
failed_as (step_errors.Strange kind) = errors.TargetStrange kind
failed_as step_errors.NoMemory = errors.NoMemory

-- what the last news of a lane that ended say
abbrev pub EndsBy : Option LaneNews → Result Bool RebuildErr → Type 0
EndsBy (Some news.Committed) r = r ≡ Ok true
EndsBy (Some news.Exists) r = r ≡ Ok false
EndsBy (Some (news.Full room used need limit)) r = r ≡ Err (errors.TargetFull room used need limit)
EndsBy (Some (news.Lacking place)) r = r ≡ Err (errors.TargetLacking place)
EndsBy (Some news.Fault) r = r ≡ Err errors.TargetFault
EndsBy (Some (news.Damaged at byte)) r = r ≡ Err (errors.TargetDamaged at byte)
EndsBy (Some (news.Rotten named found)) r = r ≡ Err (errors.TargetRotten named found)
EndsBy (Some news.NoMemory) r = r ≡ Err errors.TargetNoMemory
EndsBy said r = r ≡ Err errors.NoMemory

-- Some of what is still to be brought would be: from a state on, with the turns that there were, and more behind the state that these
-- led to. The target's own reply, which is none that a share is lacking, or nothing would end it.
pub record IsFilledFurther (shape : Shape) (target : ℕ) (serve : List Command → Request → Outcome) (fs : List Finding) (r : Progressed) (start : Peer) (turns : List (LaneTurn Peer)) (at : Peer) : Type 0 where
  pub front : List Finding
  pub left : List Finding
  pub split : fs ≡ front ++ left
  pub more : List (LaneTurn Peer)
  pub last : Progressed
  pub end : Peer
  pub brings : BringsAll shape target serve front r start (turns ++ more) last end
  pub comes : ComesBefore more end at
  pub counts : CountsOn at end
  pub ends : ((left ≡ []) × (last.stop ≡ None)) ⊎ ((said : Reply) × (e : RebuildErr) × (last.stop ≡ Some said) × StopsAs said e × IsNoLack e)

-- the lane of the version was cut behind these turns
abbrev pub LaneCut : Shape → ℕ → (List Command → Request → Outcome) → FileVersion → Peer → List (LaneTurn Peer) → Peer → Type 0
LaneCut shape target serve v start turns at =
    (f : Finding) (fs : List Finding) (r : Progressed) → f.found ≡ Ok v → r.stop ≡ None → IsFilledFurther shape target serve (f ∷ fs) r start turns at

-- the lane of the version ended so
pub record LaneEnds (shape : Shape) (target : ℕ) (serve : List Command → Request → Outcome) (v : FileVersion) (start : Peer) (turns : List (LaneTurn Peer)) (end : Peer) (Ends : LaneState → Reply → Type 0) : Type 0 where
  pub last : Progress
  pub said : Reply
  pub run : LaneRun (Exec shape true serve) (lane_of shape target v) start turns last end
  pub said_is : last_said turns ≡ Some said
  pub ends : Ends last.lane.state said

-- the version is entered, or stands with another recipe
abbrev pub IsVersionThere : Bool → LaneState → Reply → Type 0
IsVersionThere true state said = state ≡ Done
IsVersionThere false state said = (state ≡ Refused) × (said ≡ replies.Exists)

-- the reply stops the rebuild
abbrev pub StopsBy : RebuildErr → LaneState → Reply → Type 0
StopsBy e state said = StopsAs said e × ((key : Tag × Version) (r : Progressed) → (lane_ended key state said r).stop ≡ Some said)

-- a told target was brought this version, from one state on to another, behind which the last ask may have been lost
abbrev pub BringsTold : Shape → ℕ → (List Command → Request → Outcome) → FileVersion → Result Bool RebuildErr → List (LaneTurn Peer) → Peer → Peer → Peer → Type 0
BringsTold shape target serve v (Ok there) turns start at end = LaneEnds shape target serve v start turns end (IsVersionThere there)
BringsTold shape target serve v (Err errors.NoMemory) turns start at end = LaneCut shape target serve v start turns at
BringsTold shape target serve v (Err errors.TargetLost) turns start at end = LaneCut shape target serve v start turns at
BringsTold shape target serve v (Err e) turns start at end = LaneEnds shape target serve v start turns end (StopsBy e)

-- Told or not, its count rose where it failed; it is damaged, rotten or lacking a share only where it isn't told; and it answers
-- nothing strange, nor that its memory ran out.
abbrev pub BringCaused : {A : Type 0} → Bool → Result A RebuildErr → Peer → Peer → Type 0
BringCaused told (Err errors.TargetFault) start end = Rose start.faults end.faults
BringCaused told (Err (errors.TargetDamaged at byte)) start end = told ≡ false
BringCaused told (Err (errors.TargetRotten named found)) start end = told ≡ false
BringCaused told (Err (errors.TargetLacking place)) start end = told ≡ false
BringCaused told (Err errors.TargetNoMemory) start end = ⊥
BringCaused told (Err (errors.TargetStrange kind)) start end = ⊥
BringCaused told result start end = Unit {0}

-- What holds, told or not: a result has its cause, and says what the target said last, if that made it, and that so they ended; and its
-- turns are so.
pub record BringHolds {A : Type 0} (told : Bool) (Own Ended : List (LaneTurn Peer) → Type 0) (result : Result A RebuildErr) (turns : List (LaneTurn Peer)) (start end : Peer) : Type 0 where
  pub caused : BringCaused told result start end
  pub said : SaidLast result turns
  pub ended : OfReply result (Ended turns)
  pub own : Own turns

-- it is none that a cloud which is read made
abbrev pub OfTarget : {A : Type 0} → Result A RebuildErr → Type 0
OfTarget (Err (errors.FromRestore e)) = ⊥
OfTarget result = Unit {0}

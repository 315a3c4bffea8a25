-- What a rebuild does to the clouds of a link, and what its errors say, told or not.
use Rattle.std.specs.Prelude.{◌≡◌, ℕ, ◌≤◌, ◌⊎◌, Bool, true, false, IsTrue, List, [], ◌∷◌, Some, Result, Err}
use Rattle.std.specs.List.{Contains}
use Rattle.lane_steps.specs.CdEdges.Causes.{Rose}
use Rattle.lane_steps.specs.UserDedup.Exec.{Peer}
use Rattle.lane_steps.specs.CdBase.ids.UserId.{UserId}
use Rattle.lane_steps.specs.CdBase.shape.Shape.{Shape}
use Rattle.lane_steps.specs.Messages.Requests.{request_bytes}
use Rattle.lane_steps.specs.Messages.request.Request.{Request}
use Rattle.lane_steps.specs.UserDedup.Link.{LinkTelling, Exchange, Passes, ReadsOneOf, Does, LosesAsk}
use Rattle.lane_steps.specs.UploadJob.Lane.{LaneState}
use Rattle.lane_steps.specs.UploadJob.Upload.{FileVersion, work_of}
use Rattle.lane_steps.specs.Runs.{LaneTurn, request_of}
use Rattle.lane_steps.specs.Steps.{Talks, Heard, LostAsk}
use Rattle.kept_files.specs.RestoreJob.Asking.{PeersOf, TellsAll, is_loss}
use Rattle.kept_files.specs.RestoreJob.Refusals.{Names}
use Rattle.kept_files.specs.RestoreJob.error.RestoreErr.{RestoreErr}
use Rattle.kept_files.specs.RestoreJob.error.RestoreErr.TheVariants as refusals
use Rattle.rebuild.specs.declared.error.RebuildErr.{RebuildErr}
use Rattle.rebuild.specs.declared.error.RebuildErr.TheVariants as errors
use Rattle.rebuild.specs.Rebuilding.{LeavesBut}
use Rattle.rebuild.specs.Turns.{EndsLane, OfReply, OwnLanes, SaidLast}

-- ---- the clouds

-- the clouds that are read were asked, for what adds nothing
abbrev pub Reading : {L : Type 0} → LinkTelling L → List ℕ → L → L → Type 0
Reading t from old new = (asks : List Exchange) × Passes t (ReadsOneOf from) old asks new

-- The link's way, from a state in which the target stands for this peer: the clouds are read, the target has a turn, the clouds are
-- read again, and so on; and what the target stands for at last.
abbrev pub TargetAlong : {L : Type 0} → LinkTelling L → Talks L → ℕ → List ℕ → L → Peer → List (LaneTurn Peer) → L → Peer → Type 0
TargetAlong t talk target from old p [] new last = Reading t from old new × t.stands new target p × (last ≡ p)
TargetAlong {L} t talk target from old p (u ∷ us) new last =
    (mid : L) × (next : L) × Reading t from old mid × t.stands mid target p × (u.before ≡ p)
    × Heard t talk target mid u.request u.reply next
    × ((q : Peer) × t.stands next target q × Does t target mid p u.request u.reply q × TargetAlong t talk target from next q us new last)

-- Nothing came behind these turns, or where that is the result an ask of the target that was lost.
abbrev pub ThenLost : {L A : Type 0} → LinkTelling L → ℕ → L → Peer → Result A RebuildErr → L → Peer → Type 0
ThenLost t target old p (Err errors.TargetLost) new q = (request : Request) × LostAsk t target old request new × LosesAsk t target old p request q
ThenLost t target old p result new q = (new ≡ old) × (q ≡ p)

-- From all peers that some clouds stood for, the target and the clouds that are read among them, they went on to others
-- that they stand for now. The target had turns, between which the clouds were read, and was then at some state. The turns and the peers
-- before and after are always so related, and further so, with that state, where the target and the clouds that are read are told.
abbrev pub LeadsWithTarget : {L A : Type 0} → LinkTelling L → Talks L → ℕ → List ℕ → L → L → Result A RebuildErr
    → (List (LaneTurn Peer) → (ℕ → Peer) → (ℕ → Peer) → Type 0) → (List (LaneTurn Peer) → (ℕ → Peer) → Peer → (ℕ → Peer) → Type 0) → Type 0
LeadsWithTarget {L} t talk target from old new result Always Related =
    (these : ℕ → Bool) → ((cloud : ℕ) → Contains (target ∷ from) cloud → IsTrue (these cloud))
    → (before : ℕ → Peer) → PeersOf t old these before
    → (after : ℕ → Peer) × (turns : List (LaneTurn Peer)) × (last : L) × (at : Peer)
    × PeersOf t new these after × LeavesBut from target before after
    × TargetAlong t talk target from old (before target) turns last at × ThenLost t target last at result new (after target)
    × Always turns before after
    × (TellsAll t old (target ∷ from) → Related turns before at after)

-- ---- the asks

-- the target was asked, or one of the clouds that are read, for what adds nothing
abbrev pub AsksTargetOrReads : ℕ → List ℕ → Exchange → Type 0
AsksTargetOrReads target from e = (e.cloud ≡ target) ⊎ ReadsOneOf from e

-- A link after the asks of a rebuild: the other clouds stand for what they stood for, whatever these stand for, and what the
-- link tells beside its clouds stays. An ask is lost only where the count of losses rose, and never where the link tells that
-- it loses nothing, which it then tells still.
pub record HasAskedToRebuild {L : Type 0} (t : LinkTelling L) (target : ℕ) (from : List ℕ) (old new : L) (loss : Bool) : Type 0 where
  pub asks : List Exchange
  pub passed : Passes t (AsksTargetOrReads target from) old asks new
  pub others : (cloud : ℕ) (p : Peer) → (Contains (target ∷ from) cloud → ⊥) → t.stands old cloud p → t.stands new cloud p
  pub reaches : t.reaches new ≡ t.reaches old
  pub shape : t.shape new ≡ t.shape old
  pub told : t.told new ≡ t.told old
  pub full : t.full new ≡ t.full old
  pub later : t.losses old ≤ t.losses new
  pub lost : loss ≡ true → Rose (t.losses old) (t.losses new)
  pub lossless : IsTrue (t.lossless old) → (loss ≡ false) × IsTrue (t.lossless new)

-- whether a result is that an ask was lost
abbrev pub is_lost : {A : Type 0} → Result A RebuildErr → Bool
is_lost (Err errors.TargetLost) = true
is_lost (Err (errors.FromRestore e)) = is_loss e
is_lost result = false

-- the content is a request that the lane has which brings a version of this user
abbrev pub IsOfLane : Shape → UserId → ℕ → List ℕ → Type 0
IsOfLane shape user target content =
    (v : FileVersion) × (state : LaneState) × (request : Request) × (v.user ≡ user)
    × (request_of (record { work = work_of shape v target; state = state }) ≡ Some request) × (content ≡ request_bytes request)

abbrev pub AsksOwn : Shape → UserId → ℕ → List ℕ → Exchange → Type 0
AsksOwn shape user target from e = ((e.cloud ≡ target) × IsOfLane shape user target e.content) ⊎ ReadsOneOf from e

-- The target was asked for nothing but what brings versions of this user, and the clouds that are read for what adds nothing.
abbrev pub BringsOwn : {L : Type 0} → LinkTelling L → Shape → UserId → ℕ → List ℕ → L → L → Type 0
BringsOwn t shape user target from old new = (asks : List Exchange) × Passes t (AsksOwn shape user target from) old asks new

-- ---- the errors

-- a refusal of a cloud that is read is one of these, and no reason to skip
abbrev pub IsReadRefusal : RestoreErr → Type 0
IsReadRefusal (refusals.Lost cloud) = Unit {0}
IsReadRefusal (refusals.CloudFault cloud) = Unit {0}
IsReadRefusal (refusals.CloudDamaged cloud at byte) = Unit {0}
IsReadRefusal (refusals.CloudRotten cloud named found) = Unit {0}
IsReadRefusal (refusals.CloudNoMemory cloud) = Unit {0}
IsReadRefusal (refusals.Strange cloud kind) = Unit {0}
IsReadRefusal (refusals.BadShare cloud secret named found) = Unit {0}
IsReadRefusal e = ⊥

-- and it names one of the clouds that are read
abbrev pub HandsOn : {A : Type 0} → List ℕ → Result A RebuildErr → Type 0
HandsOn from (Err (errors.FromRestore e)) = IsReadRefusal e × Names (Contains from) e
HandsOn from result = Unit {0}

-- What a refusal says of the cloud that it names, told or not: the count of one that answered fault rose; and of a told one
-- nothing else comes but a lost ask.
abbrev pub ReadCaused : {L : Type 0} → LinkTelling L → L → RestoreErr → (ℕ → Peer) → (ℕ → Peer) → Type 0
ReadCaused t link (refusals.CloudFault c) before after = Rose (before c.0).faults (after c.0).faults
ReadCaused t link (refusals.CloudDamaged c at byte) before after = t.told link c.0 ≡ false
ReadCaused t link (refusals.CloudRotten c named found) before after = t.told link c.0 ≡ false
ReadCaused t link (refusals.CloudNoMemory c) before after = t.told link c.0 ≡ false
ReadCaused t link (refusals.Strange c kind) before after = t.told link c.0 ≡ false
ReadCaused t link (refusals.BadShare c secret named found) before after = t.told link c.0 ≡ false
ReadCaused t link e before after = Unit {0}

-- What a result says, told or not: of a cloud that is read as above; the target's count rose where it failed; only one that isn't
-- told is damaged, rotten or lacking a share; and a target that stands for a peer never answers what no server gives, nor that its
-- memory ran out.
abbrev pub CausesRebuildEnd : {L A : Type 0} → LinkTelling L → L → ℕ → Result A RebuildErr → (ℕ → Peer) → (ℕ → Peer)
    → Type 0
CausesRebuildEnd t link target (Err (errors.FromRestore e)) before after = ReadCaused t link e before after
CausesRebuildEnd t link target (Err errors.TargetFault) before after = Rose (before target).faults (after target).faults
CausesRebuildEnd t link target (Err (errors.TargetDamaged at byte)) before after = t.told link target ≡ false
CausesRebuildEnd t link target (Err (errors.TargetRotten named found)) before after = t.told link target ≡ false
CausesRebuildEnd t link target (Err (errors.TargetLacking place)) before after = t.told link target ≡ false
CausesRebuildEnd t link target (Err errors.TargetNoMemory) before after = ⊥
CausesRebuildEnd t link target (Err (errors.TargetStrange kind)) before after = ⊥
CausesRebuildEnd t link target result before after = Unit {0}

-- What holds, told or not: a result has its cause, and says what the target said last, if that made it, at the end of its lane; and the
-- target's turns are those of the lanes of some versions of this user, one after another.
pub record HasRebuildCause {L A : Type 0} (t : LinkTelling L) (link : L) (shape : Shape) (user : UserId) (target : ℕ) (result : Result A RebuildErr)
    (turns : List (LaneTurn Peer)) (before after : ℕ → Peer) : Type 0 where
  pub caused : CausesRebuildEnd t link target result before after
  pub said : SaidLast result turns
  pub ended : OfReply result (EndsLane shape user target turns)
  pub own : OwnLanes shape user target turns

-- What holds of the target's turns, told or not.
use Rattle.std.proofs.Common.{◌≡◌, ℕ, List, [], ◌∷◌, ◌++◌, map, Some, None, Result, Ok, Err, refl, sym, ap, ◌∙◌, subst, inl, inr, append_assoc, append-nil}
use Rattle.std.specs.List.{Contains}
use Rattle.std.proofs.lemmas.List.Elements.{Contains-append_cases}
use Rattle.lane_steps.specs.CdBase.ids.UserId.{UserId}
use Rattle.lane_steps.specs.CdBase.shape.Shape.{Shape}
use Rattle.lane_steps.specs.Messages.Requests.{request_bytes}
use Rattle.lane_steps.specs.Messages.request.Request.{Request}
use Rattle.lane_steps.specs.Messages.request.Request.TheVariants as requests
use Rattle.lane_steps.specs.Messages.reply.Reply.{Reply}
use Rattle.lane_steps.specs.UserDedup.Exec.{Peer}
use Rattle.lane_steps.specs.UserDedup.Cloud.{fingerprint}
use Rattle.lane_steps.specs.UserDedup.Requests.{asker}
use Rattle.lane_steps.proofs.UserDedup.Growing.{AsksNoDelete}
use Rattle.lane_steps.proofs.UserDedup.Owned.{contains_cases, contains_nothing}
use Rattle.lane_steps.specs.UploadJob.Upload.{FileVersion, Work, work_of}
use Rattle.lane_steps.specs.UploadJob.Lane.{LaneState, Asking, Sending, Committing, Done, Refused, lane_request, unflagged}
use Rattle.lane_steps.specs.Runs.{LaneTurn, Progress, progress_after, LaneAlong}
use Rattle.kept_files.specs.RestoreJob.error.RestoreErr.{RestoreErr}
use Rattle.kept_files.specs.RestoreJob.error.RestoreErr.TheVariants as refusals
use Rattle.rebuild.specs.declared.error.RebuildErr.{RebuildErr}
use Rattle.rebuild.specs.declared.error.RebuildErr.TheVariants as errors
use Rattle.rebuild.specs.Entering.{stopped_as}
use Rattle.rebuild.specs.Over.{IsOfLane}
use Rattle.rebuild.specs.Rebuilding.{lane_of, last_said}
use Rattle.rebuild.specs.Turns.{EndsLane, LaneEnded, LaneGoes, LanesGo, OfReply, OwnLanes, SaidLast, goes_to}
use Rattle.rebuild.proofs.Lanes.{lane_asks_no_delete}

-- ---- whose lanes

pub goes_along : (Goes : Peer → Request → Reply → Peer → Type 0) (p last : Progress) (old new : Peer) (turns : List (LaneTurn Peer)) → LaneAlong Goes p old turns last new → LaneGoes p turns
goes_along Goes p last old new [] along = tt
goes_along Goes p last old new (t ∷ turns) along = (along.0, along.2, goes_along Goes (progress_after p t.reply) last along.3.0 new turns along.3.2)

-- by these turns it came there
pub goes_there : (Goes : Peer → Request → Reply → Peer → Type 0) (p last : Progress) (old new : Peer) (turns : List (LaneTurn Peer)) → LaneAlong Goes p old turns last new → last ≡ goes_to p turns
goes_there Goes p last old new [] along = along.0
goes_there Goes p last old new (t ∷ turns) along = goes_there Goes (progress_after p t.reply) last along.3.0 new turns along.3.2

module _ (shape : Shape) (user : UserId) (target : ℕ) where
  -- a lane that came to its end
  pub ends_one : (v : FileVersion) (turns : List (LaneTurn Peer)) → v.user ≡ user → LaneGoes (lane_of shape target v) turns → LaneEnded (lane_of shape target v) turns → EndsLane shape user target turns
  ends_one v turns same goes ended = record { front = []; lane = turns; version = v; split = refl; user_is = same; goes = goes; ended = ended }

  -- behind others
  pub ends_behind : (us vs : List (LaneTurn Peer)) → EndsLane shape user target vs → EndsLane shape user target (us ++ vs)
  ends_behind us vs x = record {
    front = us ++ x.front;
    lane = x.lane;
    version = x.version;
    split = ap (λ (l : List (LaneTurn Peer)). us ++ l) x.split ∙ sym (append_assoc us x.front x.lane);
    user_is = x.user_is;
    goes = x.goes;
    ended = x.ended;
  }

  pub lanes_none : OwnLanes shape user target []
  lanes_none = ([], refl)

  pub lanes_one : (v : FileVersion) (turns : List (LaneTurn Peer)) → v.user ≡ user → LaneGoes (lane_of shape target v) turns → OwnLanes shape user target turns
  lanes_one v turns same goes = (v ∷ [], (turns, [], sym (append-nil turns), same, goes, refl))

  lanes_go : (versions more : List FileVersion) (us vs : List (LaneTurn Peer)) → LanesGo shape user target versions us → LanesGo shape user target more vs → LanesGo shape user target (versions ++ more) (us ++ vs)
  lanes_go [] more us vs one two = subst (λ (l : List (LaneTurn Peer)). LanesGo shape user target more (l ++ vs)) (sym one) two
  lanes_go (v ∷ versions) more us vs one two =
      (one.0, one.1 ++ vs, ap (λ (l : List (LaneTurn Peer)). l ++ vs) one.2 ∙ append_assoc one.0 one.1 vs, one.3, one.4, lanes_go versions more one.1 vs one.5 two)

  pub lanes_on : (us vs : List (LaneTurn Peer)) → OwnLanes shape user target us → OwnLanes shape user target vs → OwnLanes shape user target (us ++ vs)
  lanes_on us vs one two = (one.0 ++ two.0, lanes_go one.0 two.0 us vs one.1 two.1)

-- ---- whose requests

pub some_request : (a b : Request) → Some a ≡ Some b → a ≡ b
some_request a b e = cc

asked_for : (w : Work) (state : LaneState) (request : Request) → lane_request w state ≡ Some request → asker request ≡ w.user
asked_for w (Asking batch rest) request e = subst (λ (r : Request). asker r ≡ w.user) (some_request (requests.Query w.user (map fingerprint batch)) request e) refl
asked_for w (Sending batch marks rest) request e = subst (λ (r : Request). asker r ≡ w.user) (some_request (requests.Put w.user (unflagged batch marks)) request e) refl
asked_for w Committing request e = subst (λ (r : Request). asker r ≡ w.user) (some_request (requests.Commit w.user w.tag w.version w.recipe) request e) refl
asked_for w Done request e = absurd cc
asked_for w Refused request e = absurd cc

-- a turn of a lane has its request
turn_asks : (w : Work) (p : Progress) (turns : List (LaneTurn Peer)) (t : LaneTurn Peer) → p.lane.work ≡ w → LaneGoes p turns → Contains turns t → (state : LaneState) × (lane_request w state ≡ Some t.request)
turn_asks w p [] t is goes has = absurd (contains_nothing t has)
turn_asks w p (u ∷ turns) t is goes has =
    elim (contains_cases u turns t has) [
      | inl same ↦ (p.lane.state, subst (λ (x : Work). lane_request x p.lane.state ≡ Some t.request) is (goes.1 ∙ ap (λ (x : LaneTurn Peer). Some x.request) same))
      | inr later ↦ turn_asks w (progress_after p u.reply) turns t is goes.2 later
    ]

pub own_turn : (shape : Shape) (user : UserId) (target : ℕ) (versions : List FileVersion) (turns : List (LaneTurn Peer)) (t : LaneTurn Peer) → LanesGo shape user target versions turns → Contains turns t
    → (asker t.request ≡ user) × IsOfLane shape user target (request_bytes t.request)
own_turn shape user target [] turns t go has = absurd (contains_nothing t (subst (λ (l : List (LaneTurn Peer)). Contains l t) go has))
own_turn shape user target (v ∷ versions) turns t go has =
    elim (Contains-append_cases go.0 go.1 t (subst (λ (l : List (LaneTurn Peer)). Contains l t) go.2 has)) [
      | inl here ↦ (let x = turn_asks (work_of shape v target) (lane_of shape target v) go.0 t refl go.4 here in (asked_for (work_of shape v target) x.0 t.request x.1 ∙ go.3, (v, x.0, t.request, go.3, x.1, refl)))
      | inr later ↦ own_turn shape user target versions go.1 t go.5 later
    ]

-- no turn asks a Delete
pub own_no_delete : (shape : Shape) (user : UserId) (target : ℕ) (versions : List FileVersion) (turns : List (LaneTurn Peer)) (t : LaneTurn Peer) → LanesGo shape user target versions turns → Contains turns t → AsksNoDelete t.request
own_no_delete shape user target [] turns t go has = absurd (contains_nothing t (subst (λ (l : List (LaneTurn Peer)). Contains l t) go has))
own_no_delete shape user target (v ∷ versions) turns t go has =
    elim (Contains-append_cases go.0 go.1 t (subst (λ (l : List (LaneTurn Peer)). Contains l t) go.2 has)) [
      | inl here ↦ (let x = turn_asks (work_of shape v target) (lane_of shape target v) go.0 t refl go.4 here in lane_asks_no_delete (work_of shape v target) x.0 t.request x.1)
      | inr later ↦ own_no_delete shape user target versions go.1 t go.5 later
    ]

-- ---- the last reply

pub last_on : (us vs : List (LaneTurn Peer)) (said : Reply) → last_said vs ≡ Some said → last_said (us ++ vs) ≡ Some said
last_on [] vs said e = e
last_on (u ∷ []) [] said e = absurd (let f : None ≡ Some said = e in cc)
last_on (u ∷ []) (v ∷ vs) said e = e
last_on (u ∷ w ∷ us) vs said e = last_on (w ∷ us) vs said e

pub said_on : {A : Type 0} (r : Result A RebuildErr) (us vs : List (LaneTurn Peer)) → SaidLast r vs → SaidLast r (us ++ vs)
said_on (Ok x) us vs y = tt
said_on (Err (errors.FromRestore e)) us vs y = tt
said_on (Err errors.TargetLost) us vs y = tt
said_on (Err errors.TargetFault) us vs y = last_on us vs _ y
said_on (Err (errors.TargetDamaged place byte)) us vs y = last_on us vs _ y
said_on (Err (errors.TargetRotten named hash)) us vs y = last_on us vs _ y
said_on (Err (errors.TargetFull room used need limit)) us vs y = last_on us vs _ y
said_on (Err (errors.TargetLacking place)) us vs y = last_on us vs _ y
said_on (Err errors.TargetNoMemory) us vs y = last_on us vs _ y
said_on (Err (errors.TargetStrange kind)) us vs y = tt
said_on (Err errors.NoMemory) us vs y = tt

pub said_as : (A B : Type 0) (e : RebuildErr) (turns : List (LaneTurn Peer)) → SaidLast {A = A} (Err e) turns → SaidLast {A = B} (Err e) turns
said_as A B (errors.FromRestore e) turns y = tt
said_as A B errors.TargetLost turns y = tt
said_as A B errors.TargetFault turns y = y
said_as A B (errors.TargetDamaged place byte) turns y = y
said_as A B (errors.TargetRotten named hash) turns y = y
said_as A B (errors.TargetFull room used need limit) turns y = y
said_as A B (errors.TargetLacking place) turns y = y
said_as A B errors.TargetNoMemory turns y = y
said_as A B (errors.TargetStrange kind) turns y = tt
said_as A B errors.NoMemory turns y = tt

pub said_stopped : (A : Type 0) (e : RestoreErr) (turns : List (LaneTurn Peer)) → SaidLast {A = A} (Err (stopped_as e)) turns
said_stopped A (refusals.Missing c) turns = tt
said_stopped A (refusals.Lost c) turns = tt
said_stopped A (refusals.CloudFault c) turns = tt
said_stopped A (refusals.CloudDamaged c at byte) turns = tt
said_stopped A (refusals.CloudRotten c named hash) turns = tt
said_stopped A (refusals.CloudNoMemory c) turns = tt
said_stopped A (refusals.Strange c kind) turns = tt
said_stopped A (refusals.RecipesDiffer one other place) turns = tt
said_stopped A (refusals.ShareLength c secret size wanted) turns = tt
said_stopped A (refusals.BadShare c secret named hash) turns = tt
said_stopped A (refusals.BadSecret secret named hash) turns = tt
said_stopped A (refusals.BadPad secret at byte) turns = tt
said_stopped A refusals.NoMemory turns = tt

-- ---- an error that a reply made

pub of_reply : (e : RebuildErr) (P Q : Type 0) → (P → Q) → OfReply {A = Unit {0}} (Err e) P → OfReply {A = Unit {0}} (Err e) Q
of_reply (errors.FromRestore e) P Q f x = tt
of_reply errors.TargetLost P Q f x = tt
of_reply errors.TargetFault P Q f x = f x
of_reply (errors.TargetDamaged place byte) P Q f x = f x
of_reply (errors.TargetRotten named hash) P Q f x = f x
of_reply (errors.TargetFull room used need limit) P Q f x = f x
of_reply (errors.TargetLacking place) P Q f x = f x
of_reply errors.TargetNoMemory P Q f x = f x
of_reply (errors.TargetStrange kind) P Q f x = tt
of_reply errors.NoMemory P Q f x = tt

pub reply_of : {A : Type 0} (r : Result A RebuildErr) (P Q : Type 0) → (P → Q) → OfReply r P → OfReply r Q
reply_of (Ok x) P Q f y = tt
reply_of (Err e) P Q f y = of_reply e P Q f y

-- what holds anyway
pub reply_always : {A : Type 0} (r : Result A RebuildErr) (P : Type 0) → P → OfReply r P
reply_always (Ok x) P p = tt
reply_always (Err (errors.FromRestore e)) P p = tt
reply_always (Err errors.TargetLost) P p = tt
reply_always (Err errors.TargetFault) P p = p
reply_always (Err (errors.TargetDamaged place byte)) P p = p
reply_always (Err (errors.TargetRotten named hash)) P p = p
reply_always (Err (errors.TargetFull room used need limit)) P p = p
reply_always (Err (errors.TargetLacking place)) P p = p
reply_always (Err errors.TargetNoMemory) P p = p
reply_always (Err (errors.TargetStrange kind)) P p = tt
reply_always (Err errors.NoMemory) P p = tt

-- a cloud that is read made none
pub reply_stopped : (A : Type 0) (e : RestoreErr) (P : Type 0) → OfReply {A = A} (Err (stopped_as e)) P
reply_stopped A (refusals.Missing c) P = tt
reply_stopped A (refusals.Lost c) P = tt
reply_stopped A (refusals.CloudFault c) P = tt
reply_stopped A (refusals.CloudDamaged c at byte) P = tt
reply_stopped A (refusals.CloudRotten c named hash) P = tt
reply_stopped A (refusals.CloudNoMemory c) P = tt
reply_stopped A (refusals.Strange c kind) P = tt
reply_stopped A (refusals.RecipesDiffer one other place) P = tt
reply_stopped A (refusals.ShareLength c secret size wanted) P = tt
reply_stopped A (refusals.BadShare c secret named hash) P = tt
reply_stopped A (refusals.BadSecret secret named hash) P = tt
reply_stopped A (refusals.BadPad secret at byte) P = tt
reply_stopped A refusals.NoMemory P = tt

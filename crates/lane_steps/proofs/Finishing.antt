-- A lane on its way to its end.
use Rattle.std.proofs.Common.{◌≡◌, inl, inr, ℕ, ◌<◌, ◌≤◌, Bool, true, false, ◌||◌, List, [], ◌∷◌, ◌++◌, length, Option, Some, None, Ok, Err, refl, sym, ap, ◌∙◌, subst, arith, append-nil, append_assoc}
use Rattle.std.specs.Prelude.{IsTrue}
use Rattle.grammar.specs.CdBase.shape.Shape.{Shape}
use Rattle.upload_job.specs.Messages.request.Request.{Request}
use Rattle.upload_job.specs.Messages.reply.Reply.{Reply}
use Rattle.upload_job.specs.UserDedup.Link.{LinkTelling, Talk, LeavesOthers}
use Rattle.upload_job.specs.declared.news.LaneNews.{LaneNews}
use Rattle.upload_job.specs.Lane.{LaneState, news_of}
use Rattle.upload_job.specs.Lanes.{LaneView, request_at, with_state}
use Rattle.lane_steps.specs.Reached.{IsReached, IsOnItsWay}
use Rattle.lane_steps.specs.Runs.{LaneTurn, Progress, starting, moved, request_of, progress_after, LaneRun, LaneAlong, Tell, lane_at, left_of}
use Rattle.lane_steps.proofs.Measure.{falls}
use Rattle.lane_steps.specs.declared.error.StepErr.{StepErr}
use Rattle.lane_steps.specs.declared.error.StepErr.TheVariants as errors
use Rattle.lane_steps.specs.Steps.{Heard, LaneSteps, Finishes, LosesBy, stops_by, tells_lack}
use Rattle.lane_steps.proofs.Telling.{stops_told, lacks_told}
use Rattle.lane_steps.proofs.Views.{request_here, length_with, lane_with, with_twice, with_same}
use Rattle.lane_steps.proofs.Runs.{along_more, tell_more, run_of, others_on}

-- a lane that goes on
abbrev pub here : List LaneView → ℕ → Bool → Progress
here now cloud lacked = record { lane = lane_at now cloud; lacked = lacked; stopped = false }

-- The lane went on from the old link and views to these, and goes on.
pub record Along {L : Type 0} (t : LinkTelling L) (talk : L → ℕ → Talk → Type 0) (cloud : ℕ) (old : L) (views : List LaneView) (before : List LaneNews) (mid : L) (now : List LaneView) (lacked : Bool) (told : List LaneNews) : Type 0 where
  pub turns : List (LaneTurn L)
  pub heard : List LaneNews
  pub along : LaneAlong (Heard t talk cloud) (starting (lane_at views cloud)) old turns (here now cloud lacked) mid
  pub tell : Tell (lane_at views cloud) turns heard
  pub told_is : told ≡ before ++ heard
  pub now_is : now ≡ with_state views cloud (lane_at now cloud).state
  pub below : cloud < length now
  pub way : IsOnItsWay (t.shape old) now
  pub reached : IsReached (t.shape old) views → IsReached (t.shape old) now
  pub reaches : IsTrue (t.reaches old cloud)
  pub others : LeavesOthers t cloud old mid
  pub later : t.losses old ≤ t.losses mid
  pub lossless : IsTrue (t.lossless old) → IsTrue (t.lossless mid)

pub no_others : {L : Type 0} (t : LinkTelling L) (cloud : ℕ) (link : L) → LeavesOthers t cloud link link
no_others t cloud link = record { stands = λ other p ne stands. stands; reaches = refl; shape = refl; told = refl; full = refl }

pub along_none : {L : Type 0} (t : LinkTelling L) (talk : L → ℕ → Talk → Type 0) (cloud : ℕ) (link : L) (views : List LaneView) (before : List LaneNews) → cloud < length views → IsOnItsWay (t.shape link) views → IsTrue (t.reaches link cloud)
    → Along t talk cloud link views before link views false before
along_none t talk cloud link views before below way reaches = record {
  turns = [];
  heard = [];
  along = (refl, refl);
  tell = refl;
  told_is = sym (append-nil before);
  now_is = sym (with_same views cloud);
  below = below;
  way = way;
  reached = λ reached. reached;
  reaches = reaches;
  others = no_others t cloud link;
  later = omega arith;
  lossless = λ h. h;
}

-- ---- what a step that told something did

pub record Told {L : Type 0} (t : LinkTelling L) (talk : L → ℕ → Talk → Type 0) (cloud : ℕ) (old : L) (views : List LaneView) (told : LaneNews) (new : L) (after : List LaneView) : Type 0 where
  pub request : Request
  pub reply : Reply
  pub asks : request_of (lane_at views cloud) ≡ Some request
  pub tells : news_of (lane_at views cloud).state reply ≡ Some told
  pub heard : Heard t talk cloud old request reply new
  pub after_is : after ≡ with_state views cloud (moved (lane_at views cloud) reply).state

told_by : {L : Type 0} (t : LinkTelling L) (talk : L → ℕ → Talk → Type 0) (cloud : ℕ) (old : L) (views : List LaneView) (one : Option Request) (told : LaneNews) (new : L) (after : List LaneView)
    → one ≡ request_of (lane_at views cloud) → LaneSteps t talk cloud old views one (Ok (Some told)) new after → Told t talk cloud old views told new after
told_by t talk cloud old views None told new after e steps = absurd steps
told_by t talk cloud old views (Some request) told new after e steps = record {
  request = request;
  reply = steps.0;
  asks = sym e;
  tells = steps.2;
  heard = steps.3;
  after_is = steps.4;
}

pub step_tells : {L : Type 0} (t : LinkTelling L) (talk : L → ℕ → Talk → Type 0) (cloud : ℕ) (old : L) (views : List LaneView) (told : LaneNews) (new : L) (after : List LaneView)
    → LaneSteps t talk cloud old views (request_at views cloud) (Ok (Some told)) new after → Told t talk cloud old views told new after
step_tells t talk cloud old views told new after steps = told_by t talk cloud old views (request_at views cloud) told new after (request_here views cloud) steps

-- it had no request, and nothing happened
record Unasked {L : Type 0} (views : List LaneView) (cloud : ℕ) (old new : L) (after : List LaneView) : Type 0 where
  pub none : request_of (lane_at views cloud) ≡ None
  pub link : new ≡ old
  pub job : after ≡ views

none_by : {L : Type 0} (t : LinkTelling L) (talk : L → ℕ → Talk → Type 0) (cloud : ℕ) (old : L) (views : List LaneView) (one : Option Request) (new : L) (after : List LaneView)
    → one ≡ request_of (lane_at views cloud) → LaneSteps t talk cloud old views one (Ok None) new after → Unasked views cloud old new after
none_by t talk cloud old views None new after e steps = record { none = sym e; link = steps.0; job = steps.1 }
none_by t talk cloud old views (Some request) new after e steps = absurd steps

-- ---- one step more

moved_here : (now after : List LaneView) (cloud : ℕ) (reply : Reply) → cloud < length now → after ≡ with_state now cloud (moved (lane_at now cloud) reply).state → lane_at after cloud ≡ moved (lane_at now cloud) reply
moved_here now after cloud reply below e = ap (λ (l : List LaneView). lane_at l cloud) e ∙ lane_with now cloud (moved (lane_at now cloud) reply).state below

-- the progress behind a reply
progress : LaneView → Bool → Bool → Progress
progress lane lacked stopped = record { lane = lane; lacked = lacked; stopped = stopped }

behind : (now after : List LaneView) (cloud : ℕ) (lacked : Bool) (reply : Reply) (told : LaneNews) (stopped : Bool) → cloud < length now → after ≡ with_state now cloud (moved (lane_at now cloud) reply).state
    → news_of (lane_at now cloud).state reply ≡ Some told → stops_by lacked told ≡ stopped
    → progress_after (here now cloud lacked) reply ≡ record { lane = lane_at after cloud; lacked = lacked || tells_lack told; stopped = stopped }
unfolding progress
behind now after cloud lacked reply told stopped below e tells stops =
    λ i. progress (sym (moved_here now after cloud reply below e) i) (lacked || lacks_told (lane_at now cloud).state reply told tells i) ((stops_told lacked (lane_at now cloud).state reply told tells ∙ stops) i)

-- the lane's turns with this one
pub record OneMore {L : Type 0} (t : LinkTelling L) (talk : L → ℕ → Talk → Type 0) (cloud : ℕ) (old : L) (views : List LaneView) (before : List LaneNews) (last : Progress) (new : L) (after : List LaneView) (told : List LaneNews) : Type 0 where
  pub turns : List (LaneTurn L)
  pub heard : List LaneNews
  pub along : LaneAlong (Heard t talk cloud) (starting (lane_at views cloud)) old turns last new
  pub tell : Tell (lane_at views cloud) turns heard
  pub told_is : told ≡ before ++ heard
  pub after_is : after ≡ with_state views cloud last.lane.state
  pub below : cloud < length after

one_more : {L : Type 0} (t : LinkTelling L) (talk : L → ℕ → Talk → Type 0) (cloud : ℕ) (old : L) (views : List LaneView) (before : List LaneNews) (mid : L) (now : List LaneView) (lacked : Bool) (told : List LaneNews)
    (first : LaneNews) (new : L) (after : List LaneView) (all : List LaneNews) (stopped : Bool)
    → Along t talk cloud old views before mid now lacked told → Told t talk cloud mid now first new after → all ≡ told ++ first ∷ [] → stops_by lacked first ≡ stopped
    → OneMore t talk cloud old views before (record { lane = lane_at after cloud; lacked = lacked || tells_lack first; stopped = stopped }) new after all
one_more {L} t talk cloud old views before mid now lacked told first new after all stopped a s all_is stops = record {
  turns = a.turns ++ turn ∷ [];
  heard = a.heard ++ first ∷ [];
  along = subst (λ (p : Progress). LaneAlong (Heard t talk cloud) (starting (lane_at views cloud)) old (a.turns ++ turn ∷ []) p new) at
      (along_more (Heard t talk cloud) (starting (lane_at views cloud)) (here now cloud lacked) old mid new a.turns turn a.along refl refl s.asks s.heard);
  tell = tell_more (Heard t talk cloud) (starting (lane_at views cloud)) (here now cloud lacked) old mid a.turns turn a.heard first a.along a.tell s.tells;
  told_is = all_is ∙ ap (λ (l : List LaneNews). l ++ first ∷ []) a.told_is ∙ append_assoc before a.heard (first ∷ []);
  after_is = here_is;
  below = let e = length_with now cloud (moved (lane_at now cloud) s.reply).state in let f = ap length s.after_is in let lt = a.below in omega arith;
}
  where
    turn : LaneTurn L
    turn = record { before = mid; request = s.request; reply = s.reply }

    at : progress_after (here now cloud lacked) s.reply ≡ record { lane = lane_at after cloud; lacked = lacked || tells_lack first; stopped = stopped }
    at = behind now after cloud lacked s.reply first stopped a.below s.after_is s.tells stops

    state : LaneState
    state = (moved (lane_at now cloud) s.reply).state

    here_is : after ≡ with_state views cloud (lane_at after cloud).state
    here_is =
        s.after_is ∙ ap (λ (l : List LaneView). with_state l cloud state) a.now_is ∙ with_twice views cloud (lane_at now cloud).state state
        ∙ ap (λ (l : LaneView). with_state views cloud l.state) (sym (moved_here now after cloud s.reply a.below s.after_is))

-- a job for all clouds that was reached from one, and then from that
pub reached_then : (old mid : Shape) (views now after : List LaneView) → mid ≡ old → (IsReached old views → IsReached old now) → (IsReached mid now → IsReached mid after) → IsReached old views → IsReached old after
reached_then old mid views now after same first next reached =
    subst (λ (shape : Shape). IsReached shape after) same (next (subst (λ (shape : Shape). IsReached shape now) (sym same) (first reached)))

pub along_on : {L : Type 0} (t : LinkTelling L) (talk : L → ℕ → Talk → Type 0) (cloud : ℕ) (old : L) (views : List LaneView) (before : List LaneNews) (mid : L) (now : List LaneView) (lacked : Bool) (told : List LaneNews)
    (first : LaneNews) (new : L) (after : List LaneView) (all : List LaneNews) (lacks : Bool)
    → Along t talk cloud old views before mid now lacked told → Told t talk cloud mid now first new after → all ≡ told ++ first ∷ [] → stops_by lacked first ≡ false → lacks ≡ (lacked || tells_lack first)
    → IsOnItsWay (t.shape mid) after → (IsReached (t.shape mid) now → IsReached (t.shape mid) after) → LeavesOthers t cloud mid new → t.losses mid ≤ t.losses new → (IsTrue (t.lossless mid) → IsTrue (t.lossless new))
    → Along t talk cloud old views before new after lacks all
along_on t talk cloud old views before mid now lacked told first new after all lacks a s all_is goes lacks_is way reached others later lossless =
    let one = one_more t talk cloud old views before mid now lacked told first new after all false a s all_is goes in
    record {
      turns = one.turns;
      heard = one.heard;
      along = subst (λ (b : Bool). LaneAlong (Heard t talk cloud) (starting (lane_at views cloud)) old one.turns (here after cloud b) new) (sym lacks_is) one.along;
      tell = one.tell;
      told_is = one.told_is;
      now_is = one.after_is;
      below = one.below;
      way = subst (λ (shape : Shape). IsOnItsWay shape after) a.others.shape way;
      reached = reached_then (t.shape old) (t.shape mid) views now after a.others.shape a.reached reached;
      reaches = a.reaches;
      others = others_on t cloud old mid new a.others others;
      later = let x = a.later in let y = later in omega arith;
      lossless = λ h. lossless (a.lossless h);
    }

-- ---- the ends

-- a reply stopped the lane
pub finishes_stopped : {L : Type 0} (t : LinkTelling L) (talk : L → ℕ → Talk → Type 0) (cloud : ℕ) (old : L) (views : List LaneView) (before : List LaneNews) (mid : L) (now : List LaneView) (lacked : Bool) (told : List LaneNews)
    (first : LaneNews) (new : L) (after : List LaneView) (all : List LaneNews)
    → Along t talk cloud old views before mid now lacked told → Told t talk cloud mid now first new after → all ≡ told ++ first ∷ [] → stops_by lacked first ≡ true
    → Finishes t talk cloud old views before (Ok tt) new after all
finishes_stopped t talk cloud old views before mid now lacked told first new after all a s all_is stops =
    let one = one_more t talk cloud old views before mid now lacked told first new after all true a s all_is stops in
    let last : Progress = record { lane = lane_at after cloud; lacked = lacked || tells_lack first; stopped = true } in
    (one.turns, last, one.heard, run_of (Heard t talk cloud) (starting (lane_at views cloud)) last old new one.turns one.along (inl refl), one.tell, one.told_is, one.after_is)

-- the lane has no request
pub finishes_done : {L : Type 0} (t : LinkTelling L) (talk : L → ℕ → Talk → Type 0) (cloud : ℕ) (old : L) (views : List LaneView) (before : List LaneNews) (mid : L) (now : List LaneView) (lacked : Bool) (told : List LaneNews)
    (new : L) (after : List LaneView) → Along t talk cloud old views before mid now lacked told → LaneSteps t talk cloud mid now (request_at now cloud) (Ok None) new after
    → Finishes t talk cloud old views before (Ok tt) new after told
finishes_done {L} t talk cloud old views before mid now lacked told new after a steps =
    let none = none_by t talk cloud mid now (request_at now cloud) new after (request_here now cloud) steps in
    let run = run_of (Heard t talk cloud) (starting (lane_at views cloud)) (here now cloud lacked) old mid a.turns a.along (inr none.none) in (
      a.turns,
      here now cloud lacked,
      a.heard,
      subst (λ (x : L). LaneRun (Heard t talk cloud) (starting (lane_at views cloud)) old a.turns (here now cloud lacked) x) (sym none.link) run,
      a.tell,
      a.told_is,
      none.job ∙ a.now_is,
    )

-- a step failed
pub finishes_failed : {L : Type 0} (t : LinkTelling L) (talk : L → ℕ → Talk → Type 0) (cloud : ℕ) (old : L) (views : List LaneView) (before : List LaneNews) (mid : L) (now : List LaneView) (lacked : Bool) (told : List LaneNews)
    (error : StepErr) (new : L) (after : List LaneView) → Along t talk cloud old views before mid now lacked told → LaneSteps t talk cloud mid now (request_at now cloud) (Err error) new after
    → Finishes t talk cloud old views before (Err error) new after told
finishes_failed t talk cloud old views before mid now lacked told error new after a steps = (
  a.turns,
  here now cloud lacked,
  a.heard,
  mid,
  a.along,
  a.tell,
  a.told_is,
  refl,
  subst (λ (o : Option Request). LaneSteps t talk cloud mid (with_state views cloud (lane_at now cloud).state) o (Err error) new after) (request_here now cloud)
      (subst (λ (l : List LaneView). LaneSteps t talk cloud mid l (request_at now cloud) (Err error) new after) a.now_is steps),
)

-- a step that lost its ask, behind others that didn't
pub loses_by : {L : Type 0} (t : LinkTelling L) (talk : L → ℕ → Talk → Type 0) (cloud : ℕ) (old : L) (views : List LaneView) (before : List LaneNews) (mid : L) (now : List LaneView) (lacked : Bool) (told : List LaneNews)
    (one : Option Request) (error : StepErr) (new : L) (after : List LaneView) → Along t talk cloud old views before mid now lacked told → LaneSteps t talk cloud mid now one (Err error) new after
    → LosesBy {A = Unit {0}} (Err error) (t.losses old) (t.losses new)
loses_by t talk cloud old views before mid now lacked told None errors.Lost new after a steps = absurd steps
loses_by t talk cloud old views before mid now lacked told (Some request) errors.Lost new after a steps = let x = a.later in let y = steps.0.rose in omega (arith, y)
loses_by t talk cloud old views before mid now lacked told one (errors.Strange kind) new after a steps = tt
loses_by t talk cloud old views before mid now lacked told one errors.NoMemory new after a steps = tt

-- ---- the measure

pub less_left : {L : Type 0} (t : LinkTelling L) (talk : L → ℕ → Talk → Type 0) (cloud : ℕ) (mid : L) (now : List LaneView) (lacked : Bool) (first : LaneNews) (new : L) (after : List LaneView) (lacks : Bool)
    → cloud < length now → Told t talk cloud mid now first new after → stops_by lacked first ≡ false → lacks ≡ (lacked || tells_lack first) → left_of (here after cloud lacks) < left_of (here now cloud lacked)
less_left t talk cloud mid now lacked first new after lacks below s goes lacks_is =
    let stops = stops_told lacked (lane_at now cloud).state s.reply first s.tells ∙ goes in
    let falls_by = falls (here now cloud lacked) s.request s.reply s.asks stops in
    let same = behind now after cloud lacked s.reply first false below s.after_is s.tells goes in
    let lt = subst (λ (p : Progress). left_of p < left_of (here now cloud lacked)) same falls_by in
    subst (λ (b : Bool). left_of (here after cloud b) < left_of (here now cloud lacked)) (sym lacks_is) lt

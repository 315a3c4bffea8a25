-- The asks of a rebuild, one after another.
use Rattle.std.proofs.Common.{◌≡◌, ℕ, ◌≤◌, Bool, true, false, List, [], ◌∷◌, ◌++◌, Option, Some, None, Result, Ok, Err, refl, sym, ◌∙◌, subst, inl, inr, arith}
use Rattle.std.specs.Prelude.{IsTrue}
use Rattle.std.specs.List.{Contains}
use Rattle.lane_steps.specs.CdEdges.Causes.{Rose}
use Rattle.lane_steps.specs.CdBase.ids.UserId.{UserId}
use Rattle.lane_steps.specs.CdBase.shape.Shape.{Shape}
use Rattle.lane_steps.specs.Messages.Requests.{request_bytes}
use Rattle.lane_steps.specs.Messages.request.Request.{Request}
use Rattle.lane_steps.specs.UserDedup.Link.{LinkTelling, Exchange, LeavesOthers, Passes, ReadsOneOf, Talk}
use Rattle.lane_steps.proofs.UserDedup.Owned.{contains_here, contains_later, contains_nothing}
use Rattle.lane_steps.specs.UploadJob.news.LaneNews.{LaneNews}
use Rattle.lane_steps.specs.UploadJob.Lanes.{LaneView, with_state}
use Rattle.lane_steps.specs.UploadJob.Upload.{FileVersion, Work, work_of}
use Rattle.lane_steps.specs.Runs.{LaneTurn, Progress, starting, request_of, progress_after, LaneAlong, lane_at}
use Rattle.lane_steps.specs.declared.error.StepErr.{StepErr}
use Rattle.lane_steps.specs.declared.error.StepErr.TheVariants as step_errors
use Rattle.lane_steps.specs.Steps.{Finishes, Heard, LaneSteps, LosesBy}
use Rattle.kept_files.specs.RestoreJob.Asking.{HasAskedClouds as Reads}
use Rattle.kept_files.proofs.RestoreJob.Leading.{rose_on}
use Rattle.rebuild.specs.Filling.{failed_as}
use Rattle.rebuild.specs.Over.{HasAskedToRebuild, AsksTargetOrReads, AsksOwn, BringsOwn, IsOfLane, is_lost}
use Rattle.rebuild.proofs.Joining.{only_target}
use Rattle.rebuild.proofs.Landing.{along_work, run_along}

-- ---- asks behind asks

passes_on : {L : Type 0} (t : LinkTelling L) (Is : Exchange → Type 0) (old mid new : L) (es fs : List Exchange) → Passes t Is old es mid → Passes t Is mid fs new → Passes t Is old (es ++ fs) new
passes_on t Is old mid new [] fs one two = subst (λ x. Passes t Is x fs new) one two
passes_on t Is old mid new (e ∷ es) fs one two = (one.0, (one.1.0, one.1.1, passes_on t Is one.1.0 mid new es fs one.1.2 two))

passes_as : {L : Type 0} (t : LinkTelling L) (Is Was : Exchange → Type 0) (old new : L) (es : List Exchange) → ((e : Exchange) → Is e → Was e) → Passes t Is old es new → Passes t Was old es new
passes_as t Is Was old new [] to one = one
passes_as t Is Was old new (e ∷ es) to one = (to e one.0, (one.1.0, one.1.1, passes_as t Is Was one.1.0 new es to one.1.2))

pub asked_none : {L : Type 0} (t : LinkTelling L) (target : ℕ) (from : List ℕ) (link : L) → HasAskedToRebuild t target from link link false
asked_none t target from link = record {
  asks = [];
  passed = refl;
  others = λ cloud p out stands. stands;
  reaches = refl;
  shape = refl;
  told = refl;
  full = refl;
  later = omega arith;
  lost = λ e. absurd (let f : false ≡ true = e in cc);
  lossless = λ h. (refl, h);
}

pub asked_on : {L : Type 0} (t : LinkTelling L) (target : ℕ) (from : List ℕ) (old mid new : L) (loss : Bool) → HasAskedToRebuild t target from old mid false → HasAskedToRebuild t target from mid new loss → HasAskedToRebuild t target from old new loss
asked_on t target from old mid new loss one two = record {
  asks = one.asks ++ two.asks;
  passed = passes_on t (AsksTargetOrReads target from) old mid new one.asks two.asks one.passed two.passed;
  others = λ cloud p out stands. two.others cloud p out (one.others cloud p out stands);
  reaches = two.reaches ∙ one.reaches;
  shape = two.shape ∙ one.shape;
  told = two.told ∙ one.told;
  full = two.full ∙ one.full;
  later = let x = one.later in let y = two.later in omega arith;
  lost = λ e. rose_on (t.losses old) (t.losses mid) (t.losses new) one.later (two.lost e);
  lossless = λ h. two.lossless (one.lossless h).1;
}

-- where an ask wasn't lost, it counts as one that wasn't
pub asked_as : {L : Type 0} (t : LinkTelling L) (target : ℕ) (from : List ℕ) (old new : L) (a b : Bool) → a ≡ b → HasAskedToRebuild t target from old new a → HasAskedToRebuild t target from old new b
asked_as t target from old new a b e asked = subst (λ (x : Bool). HasAskedToRebuild t target from old new x) e asked

-- the target alone was asked
pub asked_wider : {L : Type 0} (t : LinkTelling L) (target : ℕ) (from : List ℕ) (old new : L) (loss : Bool) → HasAskedToRebuild t target [] old new loss → HasAskedToRebuild t target from old new loss
asked_wider t target from old new loss one = record {
  asks = one.asks;
  passed = passes_as t (AsksTargetOrReads target []) (AsksTargetOrReads target from) old new one.asks wider one.passed;
  others = λ cloud p out stands. one.others cloud p (λ has. out (only_target target from cloud has)) stands;
  reaches = one.reaches;
  shape = one.shape;
  told = one.told;
  full = one.full;
  later = one.later;
  lost = one.lost;
  lossless = one.lossless;
}
  where
    wider : (e : Exchange) → AsksTargetOrReads target [] e → AsksTargetOrReads target from e
    wider e (inl same) = inl same
    wider e (inr read) = absurd (contains_nothing e.cloud read.0)

-- the clouds that are read were asked
pub asked_reads : {L : Type 0} (t : LinkTelling L) (target : ℕ) (from : List ℕ) (old new : L) (loss : Bool) → Reads t from old new loss → HasAskedToRebuild t target from old new loss
asked_reads t target from old new loss one = record {
  asks = one.asks;
  passed = passes_as t (ReadsOneOf from) (AsksTargetOrReads target from) old new one.asks (λ e read. inr read) one.passed;
  others = λ cloud p out stands. one.others cloud p (λ has. out (contains_later target from cloud has)) stands;
  reaches = one.reaches;
  shape = one.shape;
  told = one.told;
  full = one.full;
  later = one.later;
  lost = one.lost;
  lossless = one.lossless;
}

-- ---- the asks of a lane

module _ {L : Type 0} (t : LinkTelling L) (talk : L → ℕ → Talk → Type 0) (target : ℕ) where
  abbrev TargetAsks : L → L → Type 0
  TargetAsks old new = (asks : List Exchange) × Passes t (AsksTargetOrReads target []) old asks new

  along_asks : (p last : Progress) (old new : L) (turns : List (LaneTurn L)) → LaneAlong (Heard t talk target) p old turns last new → TargetAsks old new
  along_asks p last old new [] along = ([], along.1)
  along_asks p last old new (u ∷ us) along =
      let heard = along.3.1 in
      let rest = along_asks (progress_after p u.reply) last along.3.0 new us along.3.2 in
      (record { cloud = target; content = request_bytes u.request; reply = Some heard.bytes } ∷ rest.0, (inl refl, (along.3.0, heard.passed.passes, rest.1)))

  one_ask : (old new : L) (content : List ℕ) (reply : Option (List ℕ)) → t.passes old (record { cloud = target; content = content; reply = reply }) new → TargetAsks old new
  one_ask old new content reply passes = (record { cloud = target; content = content; reply = reply } ∷ [], (inl refl, (new, passes, refl)))

  step_asks : (old : L) (views : List LaneView) (one : Option Request) (e : StepErr) (new : L) (after : List LaneView) → LaneSteps t talk target old views one (Err e) new after → TargetAsks old new
  step_asks old views None step_errors.NoMemory new after steps = ([], steps.0)
  step_asks old views None step_errors.Lost new after steps = absurd steps
  step_asks old views None (step_errors.Strange kind) new after steps = absurd steps
  step_asks old views (Some request) step_errors.NoMemory new after steps =
      elim steps.0 [
        | inl same ↦ ([], same)
        | inr untaken ↦ one_ask old new (request_bytes request) (Some untaken.bytes) untaken.passed.passes
      ]
  step_asks old views (Some request) step_errors.Lost new after steps = one_ask old new (request_bytes request) None steps.0.passes
  step_asks old views (Some request) (step_errors.Strange kind) new after steps = one_ask old new (request_bytes request) (Some steps.0.bytes) steps.0.passed.passes

  finished_asks : (old : L) (views : List LaneView) (before : List LaneNews) (r : Result (Unit {0}) StepErr) (new : L) (after : List LaneView) (now : List LaneNews) → Finishes t talk target old views before r new after now → TargetAsks old new
  finished_asks old views before (Ok u) new after now f = along_asks (starting (lane_at views target)) f.1 old new f.0 (run_along (Heard t talk target) (starting (lane_at views target)) f.1 old new f.0 f.3).0
  finished_asks old views before (Err e) new after now f =
      let one = along_asks (starting (lane_at views target)) f.1 old f.3 f.0 f.4 in
      let two = step_asks f.3 (with_state views target f.1.lane.state) (request_of f.1.lane) e new after f.8 in
      (one.0 ++ two.0, passes_on t (AsksTargetOrReads target []) old f.3 new one.0 two.0 one.1 two.1)

  pub asked_lane : (old : L) (views : List LaneView) (before : List LaneNews) (r : Result (Unit {0}) StepErr) (new : L) (after : List LaneView) (now : List LaneNews) (loss : Bool)
      → Finishes t talk target old views before r new after now → LeavesOthers t target old new → t.losses old ≤ t.losses new → (loss ≡ true → Rose (t.losses old) (t.losses new))
      → (IsTrue (t.lossless old) → (loss ≡ false) × IsTrue (t.lossless new)) → HasAskedToRebuild t target [] old new loss
  asked_lane old views before r new after now loss f others later lost lossless =
      let asks = finished_asks old views before r new after now f in
      record {
        asks = asks.0;
        passed = asks.1;
        others = λ cloud p out stands. others.stands cloud p (λ same. out (subst (λ (x : ℕ). Contains (target ∷ []) x) (sym same) (contains_here target []))) stands;
        reaches = others.reaches;
        shape = others.shape;
        told = others.told;
        full = others.full;
        later = later;
        lost = lost;
        lossless = lossless;
      }

-- an ask of the lane was lost
pub failed_lost : (e : StepErr) (a b : ℕ) → LosesBy {A = Unit {0}} (Err e) a b → is_lost {A = Bool} (Err (failed_as e)) ≡ true → Rose a b
failed_lost step_errors.Lost a b rose is = rose
failed_lost (step_errors.Strange kind) a b rose is = absurd (let f : false ≡ true = is in cc)
failed_lost step_errors.NoMemory a b rose is = absurd (let f : false ≡ true = is in cc)

-- ---- whose versions the target was asked for

pub own_none : {L : Type 0} (t : LinkTelling L) (shape : Shape) (user : UserId) (target : ℕ) (from : List ℕ) (link : L) → BringsOwn t shape user target from link link
own_none t shape user target from link = ([], refl)

pub own_on : {L : Type 0} (t : LinkTelling L) (shape : Shape) (user : UserId) (target : ℕ) (from : List ℕ) (old mid new : L) → BringsOwn t shape user target from old mid → BringsOwn t shape user target from mid new
    → BringsOwn t shape user target from old new
own_on t shape user target from old mid new one two = (one.0 ++ two.0, passes_on t (AsksOwn shape user target from) old mid new one.0 two.0 one.1 two.1)

pub own_wider : {L : Type 0} (t : LinkTelling L) (shape : Shape) (user : UserId) (target : ℕ) (from : List ℕ) (old new : L) → BringsOwn t shape user target [] old new → BringsOwn t shape user target from old new
own_wider t shape user target from old new one = (one.0, passes_as t (AsksOwn shape user target []) (AsksOwn shape user target from) old new one.0 wider one.1)
  where
    wider : (e : Exchange) → AsksOwn shape user target [] e → AsksOwn shape user target from e
    wider e (inl own) = inl own
    wider e (inr read) = absurd (contains_nothing e.cloud read.0)

pub own_reads : {L : Type 0} (t : LinkTelling L) (shape : Shape) (user : UserId) (target : ℕ) (from : List ℕ) (old new : L) (loss : Bool) → Reads t from old new loss → BringsOwn t shape user target from old new
own_reads t shape user target from old new loss one = (one.asks, passes_as t (ReadsOneOf from) (AsksOwn shape user target from) old new one.asks (λ e read. inr read) one.passed)

module _ {L : Type 0} (t : LinkTelling L) (talk : L → ℕ → Talk → Type 0) (shape : Shape) (target : ℕ) (v : FileVersion) where
  abbrev Own : L → L → Type 0
  Own old new = BringsOwn t shape v.user target [] old new

  abbrev IsWork : LaneView → Type 0
  IsWork lane = lane.work ≡ work_of shape v target

  of_lane : (lane : LaneView) (request : Request) → IsWork lane → request_of lane ≡ Some request → IsOfLane shape v.user target (request_bytes request)
  of_lane lane request is asks = (v, lane.state, request, refl, subst (λ (w : Work). request_of (record { work = w; state = lane.state }) ≡ Some request) is asks, refl)

  own_ask : (lane : LaneView) (request : Request) (old new : L) (reply : Option (List ℕ)) → IsWork lane → request_of lane ≡ Some request
      → t.passes old (record { cloud = target; content = request_bytes request; reply = reply }) new → Own old new
  own_ask lane request old new reply is asks passes = (record { cloud = target; content = request_bytes request; reply = reply } ∷ [], (inl (refl, of_lane lane request is asks), (new, passes, refl)))

  along_own : (p last : Progress) (old new : L) (turns : List (LaneTurn L)) → IsWork p.lane → LaneAlong (Heard t talk target) p old turns last new → Own old new
  along_own p last old new [] is along = ([], along.1)
  along_own p last old new (u ∷ us) is along =
      let heard = along.3.1 in
      own_on t shape v.user target [] old along.3.0 new (own_ask p.lane u.request old along.3.0 (Some heard.bytes) is along.2 heard.passed.passes)
      (along_own (progress_after p u.reply) last along.3.0 new us is along.3.2)

  step_own : (lane : LaneView) (old : L) (views : List LaneView) (one : Option Request) (e : StepErr) (new : L) (after : List LaneView) → IsWork lane → request_of lane ≡ one → LaneSteps t talk target old views one (Err e) new after → Own old new
  step_own lane old views None step_errors.NoMemory new after is asks steps = ([], steps.0)
  step_own lane old views None step_errors.Lost new after is asks steps = absurd steps
  step_own lane old views None (step_errors.Strange kind) new after is asks steps = absurd steps
  step_own lane old views (Some request) step_errors.NoMemory new after is asks steps =
      elim steps.0 [
        | inl same ↦ ([], same)
        | inr untaken ↦ own_ask lane request old new (Some untaken.bytes) is asks untaken.passed.passes
      ]
  step_own lane old views (Some request) step_errors.Lost new after is asks steps = own_ask lane request old new None is asks steps.0.passes
  step_own lane old views (Some request) (step_errors.Strange kind) new after is asks steps = own_ask lane request old new (Some steps.0.bytes) is asks steps.0.passed.passes

  pub lane_own : (old : L) (views : List LaneView) (before : List LaneNews) (r : Result (Unit {0}) StepErr) (new : L) (after : List LaneView) (now : List LaneNews) → IsWork (lane_at views target)
      → Finishes t talk target old views before r new after now → Own old new
  lane_own old views before (Ok u) new after now is f = along_own (starting (lane_at views target)) f.1 old new f.0 is (run_along (Heard t talk target) (starting (lane_at views target)) f.1 old new f.0 f.3).0
  lane_own old views before (Err e) new after now is f =
      let here = along_work (Heard t talk target) (starting (lane_at views target)) f.1 old f.3 f.0 f.4 in
      own_on t shape v.user target [] old f.3 new (along_own (starting (lane_at views target)) f.1 old f.3 f.0 is f.4)
      (step_own f.1.lane f.3 (with_state views target f.1.lane.state) (request_of f.1.lane) e new after (here ∙ is) refl f.8)

-- The jobs of a session bring the versions of its uploads.
use Rattle.std.proofs.Common.{◌≡◌, ℕ, zero, suc, ◌+◌, ◌-◌, List, [], ◌∷◌, ◌++◌, map, Option, Some, None, refl, sym, ap, ◌∙◌, subst, arith, append-nil, append_assoc}
use Rattle.std.specs.Prelude.{slice_get}
use Rattle.std.specs.List.{range_with_len}
use Rattle.rebuild.specs.Messages.request.Request.{Request}
use Rattle.session.specs.CdBase.shape.Shape.{Shape}
use Rattle.rebuild.specs.UploadJob.Upload.{FileVersion, work_of}
use Rattle.rebuild.specs.UploadJob.Lane.{LaneState, lane_request}
use Rattle.rebuild.specs.UploadJob.Lanes.{LaneView, begun, lanes_begun, with_state}
use Rattle.rebuild.specs.UploadJob.Lanes as lanes
use Rattle.session.specs.declared.event.Event.{Event}
use Rattle.session.specs.declared.event.Event.TheVariants as events
use Rattle.session.specs.Transcript.line.Line.{Line}
use Rattle.session_model.specs.Vault.{Setting, JobState, Vault, new_job, lanes_at, with_lanes_at, lanes_of, with_lanes}
use Rattle.rebuild.specs.LaneSteps.Runs.{lane_at}
use Rattle.session_model.specs.Steps.{Moment, version_of, LaneStep, DropStep, FinishLanes, VStep}
use Rattle.session_model.specs.Run.{Answered, Turns, script_of}
use Rattle.session_model.specs.Kept.{upload_of, uploads}

-- from this cloud on the lanes bring the version
abbrev pub AreOf : Shape → FileVersion → ℕ → List LaneView → Type 0
AreOf shape v i [] = Unit {0}
AreOf shape v i (lane ∷ views) = (lane.work ≡ work_of shape v i) × AreOf shape v (i + 1) views

abbrev pub AreJobs : Shape → List JobState → Type 0
AreJobs shape [] = Unit {0}
AreJobs shape (j ∷ jobs) = AreOf shape j.version 0 j.lanes × AreJobs shape jobs

abbrev pub versions : List JobState → List FileVersion
versions jobs = map (λ (j : JobState). j.version) jobs

begun_of : (shape : Shape) (v : FileVersion) (i n : ℕ) → AreOf shape v i (map (λ cloud. begun (work_of shape v cloud)) (range_with_len i n))
begun_of shape v i zero = tt
begun_of shape v i (suc n) = (refl, begun_of shape v (i + 1) n)

stated : (shape : Shape) (v : FileVersion) (i : ℕ) (views : List LaneView) (cloud : ℕ) (state : LaneState) → AreOf shape v i views → AreOf shape v i (with_state views cloud state)
stated shape v i [] cloud state of = tt
stated shape v i (lane ∷ views) zero state of = (of.0, of.1)
stated shape v i (lane ∷ views) (suc cloud) state of = (of.0, stated shape v (i + 1) views cloud state of.1)

pub work_at : (shape : Shape) (v : FileVersion) (i : ℕ) (views : List LaneView) (cloud : ℕ) (request : Request) → AreOf shape v i views → lanes.request_at views cloud ≡ Some request
    → (lane_at views cloud).work ≡ work_of shape v (i + cloud)
work_at shape v i [] cloud request of asks = absurd (let f : None ≡ Some request = asks in cc)
work_at shape v i (lane ∷ views) zero request of asks = of.0 ∙ ap (work_of shape v) (let e : i ≡ i + 0 = omega arith in e)
work_at shape v i (lane ∷ views) (suc cloud) request of asks =
    work_at shape v (i + 1) views cloud request of.1 asks ∙ ap (work_of shape v) (let e : (i + 1) + cloud ≡ i + suc cloud = omega arith in e)

pub asks_at : (views : List LaneView) (cloud : ℕ) (request : Request) → lanes.request_at views cloud ≡ Some request → lane_request (lane_at views cloud).work (lane_at views cloud).state ≡ Some request
asks_at [] cloud request asks = absurd (let f : None ≡ Some request = asks in cc)
asks_at (lane ∷ views) zero request asks = asks
asks_at (lane ∷ views) (suc cloud) request asks = asks_at views cloud request asks

-- the job at a place brings the version at that place
pub job_of : (shape : Shape) (jobs : List JobState) (place : ℕ) (v : FileVersion) → AreJobs shape jobs → slice_get (versions jobs) place ≡ Some v → AreOf shape v 0 (lanes_at jobs place)
job_of shape [] place v are e = tt
job_of shape (j ∷ jobs) zero v are e = let same : j.version ≡ v = (let f : Some j.version ≡ Some v = e in cc) in subst (λ (x : FileVersion). AreOf shape x 0 j.lanes) same are.0
job_of shape (j ∷ jobs) (suc place) v are e = job_of shape jobs place v are.1 e

-- ---- a job with other lanes

of_lanes : (shape : Shape) (jobs : List JobState) (place cloud : ℕ) (state : LaneState) → AreJobs shape jobs → AreJobs shape (with_lanes_at jobs place (with_state (lanes_at jobs place) cloud state))
of_lanes shape [] place cloud state are = tt
of_lanes shape (j ∷ jobs) zero cloud state are = (stated shape j.version 0 j.lanes cloud state are.0, are.1)
of_lanes shape (j ∷ jobs) (suc place) cloud state are = (are.0, of_lanes shape jobs place cloud state are.1)

same_versions : (jobs : List JobState) (place : ℕ) (views : List LaneView) → versions (with_lanes_at jobs place views) ≡ versions jobs
same_versions [] place views = refl
same_versions (j ∷ jobs) zero views = refl
same_versions (j ∷ jobs) (suc place) views = ap (λ (l : List FileVersion). j.version ∷ l) (same_versions jobs place views)

one_more : (shape : Shape) (jobs : List JobState) (j : JobState) → AreJobs shape jobs → AreOf shape j.version 0 j.lanes → AreJobs shape (jobs ++ j ∷ [])
one_more shape [] j are of = (of, tt)
one_more shape (k ∷ jobs) j are of = (are.0, one_more shape jobs j are.1 of)

versions_more : (jobs : List JobState) (j : JobState) → versions (jobs ++ j ∷ []) ≡ versions jobs ++ j.version ∷ []
versions_more [] j = refl
versions_more (k ∷ jobs) j = ap (λ (l : List FileVersion). k.version ∷ l) (versions_more jobs j)

-- ---- lines

-- the jobs bring these versions
pub record Brings (shape : Shape) (jobs : List JobState) (vs : List FileVersion) : Type 0 where
  pub are : AreJobs shape jobs
  pub those : versions jobs ≡ vs

stays : (shape : Shape) (old new : List JobState) (vs : List FileVersion) → new ≡ old → Brings shape old vs → Brings shape new vs
stays shape old new vs e b = subst (λ (jobs : List JobState). Brings shape jobs vs) (sym e) b

pub lane_moved : (shape : Shape) (old new : List JobState) (job cloud : ℕ) (state : LaneState) (after : List LaneView) (vs : List FileVersion) → after ≡ with_state (lanes_of old job) cloud state
    → new ≡ with_lanes old job after → Brings shape old vs → Brings shape new vs
lane_moved shape old new job cloud state after vs e f b =
    let g = f ∙ ap (with_lanes old job) e in
    stays shape (with_lanes old job (with_state (lanes_of old job) cloud state)) new vs g (record {
      are = of_lanes shape old (job - 1) cloud state b.are;
      those = same_versions old (job - 1) (with_state (lanes_of old job) cloud state) ∙ b.those;
    })

module _ (s : Setting) where
  brings_finish : (job : ℕ) (clouds : List ℕ) (old : Vault) (answers : List Line) (moments : List Moment) (new : Vault) (vs : List FileVersion) → FinishLanes s job clouds old answers moments new → Brings s.shape old.jobs vs → Brings s.shape new.jobs vs
  brings_finish job [] old answers moments new vs f b = stays s.shape old.jobs new.jobs vs (ap (λ (v : Vault). v.jobs) f.2) b
  brings_finish job (cloud ∷ clouds) old answers moments new vs f b =
      brings_finish job clouds f.3 f.5 f.6 new vs f.13 (lane_moved s.shape old.jobs f.3.jobs job cloud f.1.lane.state f.4 vs f.9 f.10 b)

  brings_lane : (job cloud : ℕ) (request : Option Request) (old : Vault) (answers : List Line) (moments : List Moment) (new : Vault) (vs : List FileVersion) → LaneStep s job cloud request old answers moments new → Brings s.shape old.jobs vs → Brings s.shape new.jobs vs
  brings_lane job cloud None old answers moments new vs x b = stays s.shape old.jobs new.jobs vs (ap (λ (v : Vault). v.jobs) x.2) b
  brings_lane job cloud (Some request) old answers moments new vs x b = lane_moved s.shape old.jobs new.jobs job cloud _ x.2 vs x.6 x.7 b

  brings_drop : (job cloud : ℕ) (request : Option Request) (old : Vault) (answers : List Line) (moments : List Moment) (new : Vault) (vs : List FileVersion) → DropStep s job cloud request old answers moments new → Brings s.shape old.jobs vs → Brings s.shape new.jobs vs
  brings_drop job cloud None old answers moments new vs x b = stays s.shape old.jobs new.jobs vs (ap (λ (v : Vault). v.jobs) x.2) b
  brings_drop job cloud (Some request) old answers moments new vs x b = stays s.shape old.jobs new.jobs vs x.3 b

  none_more : (jobs : List JobState) (vs : List FileVersion) → Brings s.shape jobs vs → Brings s.shape jobs (vs ++ [])
  none_more jobs vs b = subst (Brings s.shape jobs) (sym (append-nil vs)) b

  pub brings_step : (old : Vault) (event : Event) (answers : List Line) (moments : List Moment) (new : Vault) (vs : List FileVersion) → VStep s old event answers moments new → Brings s.shape old.jobs vs → Brings s.shape new.jobs (vs ++ upload_of event)
  brings_step old (events.Upload user path version bytes) answers moments new vs x b =
      let v = version_of user path version bytes in
      stays s.shape (old.jobs ++ new_job s v ∷ []) new.jobs (vs ++ v ∷ []) x.3 (record {
        are = one_more s.shape old.jobs (new_job s v) b.are (begun_of s.shape v 0 s.shape.n);
        those = versions_more old.jobs (new_job s v) ∙ ap (λ (l : List FileVersion). l ++ v ∷ []) b.those;
      })
  brings_step old (events.Step job lane) answers moments new vs x b = none_more new.jobs vs (brings_lane job lane.0 (lanes.request_at (lanes_of old.jobs job) lane.0) old answers moments new vs x b)
  brings_step old (events.Lose job lane) answers moments new vs x b = none_more new.jobs vs (stays s.shape old.jobs new.jobs vs (ap (λ (v : Vault). v.jobs) x.2) b)
  brings_step old (events.Drop job lane) answers moments new vs x b = none_more new.jobs vs (brings_drop job lane.0 (lanes.request_at (lanes_of old.jobs job) lane.0) old answers moments new vs x b)
  brings_step old (events.Finish job) answers moments new vs x b = none_more new.jobs vs (brings_finish job _ old x.0 moments new vs x.1 b)
  brings_step old (events.Get user path version clouds) answers moments new vs x b = none_more new.jobs vs (stays s.shape old.jobs new.jobs vs x.4 b)
  brings_step old (events.Arm cloud calls keep) answers moments new vs x b = none_more new.jobs vs (stays s.shape old.jobs new.jobs vs x.3 b)
  brings_step old (events.Restart cloud) answers moments new vs x b = none_more new.jobs vs (stays s.shape old.jobs new.jobs vs x.4 b)
  brings_step old (events.List user cloud) answers moments new vs x b = none_more new.jobs vs (stays s.shape old.jobs new.jobs vs x.5 b)
  brings_step old (events.Replace cloud) answers moments new vs x b = none_more new.jobs vs (stays s.shape old.jobs new.jobs vs x.4 b)
  brings_step old (events.Rebuild user target from) answers moments new vs x b = none_more new.jobs vs (stays s.shape old.jobs new.jobs vs x.1 b)
  brings_step old (events.Delete user path version cloud) answers moments new vs x b = none_more new.jobs vs (stays s.shape old.jobs new.jobs vs x.1 b)

  pub brings_turns : (history : List Answered) (old new : Vault) (vs : List FileVersion) → Turns s old history new → Brings s.shape old.jobs vs → Brings s.shape new.jobs (vs ++ uploads (script_of history))
  brings_turns [] old new vs t b = none_more new.jobs vs (stays s.shape old.jobs new.jobs vs (ap (λ (v : Vault). v.jobs) t) b)
  brings_turns (a ∷ more) old new vs t b =
      subst (Brings s.shape new.jobs) (append_assoc vs (upload_of a.event) (uploads (script_of more)))
      (brings_turns more a.after new (vs ++ upload_of a.event) t.2 (brings_step old a.event a.answers a.moments a.after vs t.1 b))

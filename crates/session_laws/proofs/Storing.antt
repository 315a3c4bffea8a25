-- A finish that nothing hinders ends stored.
use Rattle.std.proofs.Common.{◌≡◌, ◌⊎◌, ℕ, zero, suc, ◌+◌, ◌-◌, ◌^◌, ◌<◌, ◌≤◌, Bool, true, false, List, [], ◌∷◌, ◌++◌, length, map, Option, Some, None, refl, sym, ap, ◌∙◌, subst, inl, inr, arith}
use Rattle.std.specs.Prelude.{IsTrue}
use Rattle.std.specs.List.{Contains, range_with_len}
use Rattle.std.proofs.lemmas.Bool.{cases_eq, cases_lt}
use Rattle.std.proofs.lemmas.List.{length-map}
use Rattle.std.proofs.lemmas.List.FromFn.{length-range_with_len}
use Rattle.std.proofs.lemmas.List.Elements.{Contains-append_left, Contains-append_right}
use Rattle.lane_steps.specs.CdBase.shape.Shape.{Shape}
use Rattle.session_model.specs.CdEdges.Causes.{Rose}
use Rattle.session_model.specs.CdEdges.Disk.{Cloud}
use Rattle.lane_steps.specs.Messages.request.Request.{Request}
use Rattle.lane_steps.specs.UserDedup.Exec.{Peer}
use Rattle.lane_steps.proofs.UserDedup.Owned.{contains_cases, contains_here, contains_later, contains_nothing}
use Rattle.lane_steps.specs.UploadJob.news.LaneNews.{LaneNews}
use Rattle.lane_steps.specs.UploadJob.Upload.{FileVersion, work_of}
use Rattle.lane_steps.specs.UploadJob.Lane.{LaneState, Done, Refused}
use Rattle.lane_steps.specs.UploadJob.Lanes.{LaneView, begun, with_state}
use Rattle.lane_steps.specs.UploadJob.Lanes as lanes
use Rattle.lane_steps.specs.Runs.{LaneTurn, Progress, LaneRun, Tell, lane_at, starting}
use Rattle.lane_steps.proofs.Views.{lane_with, length_with}
use Rattle.session_model.proofs.RebuildLaws.Lacking.{Covers, covered}
use Rattle.session_model.specs.Session.event.Event.{Event}
use Rattle.session_model.specs.Session.event.Event.TheVariants as events
use Rattle.session_model.specs.Transcript.line.Line.{Line}
use Rattle.session_model.specs.Transcript.line.Line.TheVariants as lines
use Rattle.session_model.specs.Vault.{Setting, JobState, Vault, HasVaultExecuted, lanes_at, lanes_of, with_lanes, with_lanes_at, new_job, opening}
use Rattle.session_model.specs.Steps.{Moment, DropStep, FinishLanes, LaneStep, VStep, all_done, is_done, step_line, stored_line, version_of}
use Rattle.session_model.specs.Run.{Answered, Turns, script_of}
use Rattle.session_model.specs.Kept.{uploads}
use Rattle.session_model.specs.Headline.{Session, IsRun, event_of, script_in}
use Rattle.session_model.proofs.Acknowledged.{uploads_front, splits}
use Rattle.session_model.proofs.Counts.{keeps_finish, keeps_run}
use Rattle.session_model.proofs.Faults.{rose_on, then_rose}
use Rattle.session_model.proofs.Jobs.{AreJobs, AreOf, Brings, brings_turns, versions}
use Rattle.session_model.proofs.Ranged.{IsRanged, are_ranged}
use Rattle.session_laws.specs.Stored.{SaysRefused, IsUnhindered, StoresAll}
use Rattle.session_laws.proofs.Working.{IsAtWork, run_done}

-- ---- the lanes of a job

lane_other : (views : List LaneView) (i j : ℕ) (state : LaneState) → (i ≡ j → ⊥) → lane_at (with_state views i state) j ≡ lane_at views j
lane_other [] i j state ne = refl
lane_other (lane ∷ views) zero zero state ne = absurd (ne refl)
lane_other (lane ∷ views) zero (suc j) state ne = refl
lane_other (lane ∷ views) (suc i) zero state ne = refl
lane_other (lane ∷ views) (suc i) (suc j) state ne = lane_other views i j state (λ same. ne (ap suc same))

lane_has : (views : List LaneView) (i : ℕ) → i < length views → Contains views (lane_at views i)
lane_has [] i lt = absurd (omega arith)
lane_has (lane ∷ views) zero lt = contains_here lane views
lane_has (lane ∷ views) (suc i) lt = contains_later lane views (lane_at views i) (lane_has views i (omega arith))

work_is : (shape : Shape) (v : FileVersion) (i : ℕ) (views : List LaneView) (k : ℕ) → AreOf shape v i views → k < length views → (lane_at views k).work ≡ work_of shape v (i + k)
work_is shape v i [] k are lt = absurd (omega arith)
work_is shape v i (lane ∷ views) zero are lt = are.0 ∙ ap (work_of shape v) (let e : i ≡ i + 0 = omega arith in e)
work_is shape v i (lane ∷ views) (suc k) are lt = work_is shape v (i + 1) views k are.1 (omega arith) ∙ ap (work_of shape v) (let e : (i + 1) + k ≡ i + suc k = omega arith in e)

lanes_put : (jobs : List JobState) (place i : ℕ) (state : LaneState) → lanes_at (with_lanes_at jobs place (with_state (lanes_at jobs place) i state)) place ≡ with_state (lanes_at jobs place) i state
lanes_put [] place i state = refl
lanes_put (j ∷ jobs) zero i state = refl
lanes_put (j ∷ jobs) (suc place) i state = lanes_put jobs place i state

all_true : (views : List LaneView) → ((i : ℕ) → i < length views → (lane_at views i).state ≡ Done) → all_done views ≡ true
all_true [] each = refl
all_true (lane ∷ views) each = by_state lane.state (each 0 (omega arith)) (all_true views (λ i lt. each (suc i) (omega arith)))
  where
    by_state : (state : LaneState) → state ≡ Done → all_done views ≡ true → all_done (record { work = lane.work; state = state } ∷ views) ≡ true
    by_state state is rest = subst (λ (x : LaneState). all_done (record { work = lane.work; state = x } ∷ views) ≡ true) (sym is) rest

-- the lanes of the clouds below this one are done, and no other one is refused
pub record AreSoFar (shape : Shape) (from : ℕ) (views : List LaneView) : Type 0 where
  pub done : (i : ℕ) → i < from → i < length views → (lane_at views i).state ≡ Done
  pub going : (i : ℕ) → from ≤ i → i < length views → (lane_at views i).state ≡ Refused → ⊥
  pub covers : (i : ℕ) → i < length views → Covers shape (lane_at views i).work

one_further : (shape : Shape) (from : ℕ) (views : List LaneView) (state : LaneState) → AreSoFar shape from views → (from < length views → state ≡ Done) → AreSoFar shape (from + 1) (with_state views from state)
one_further shape from views state so is = record {
  done = λ i lt long. elim (cases_eq from i) [
    | inl same ↦ here i same (omega (arith, length_with views from state))
    | inr ne ↦ ap (λ (l : LaneView). l.state) (lane_other views from i state ne) ∙ so.done i (omega (arith, ne)) (omega (arith, length_with views from state))
  ];
  going = λ i le long refused. so.going i (omega arith) (omega (arith, length_with views from state)) (sym (ap (λ (l : LaneView). l.state) (lane_other views from i state (λ same. let e : from ≡ i = same in omega (arith, e)))) ∙ refused);
  covers = λ i long. elim (cases_eq from i) [
    | inl same ↦ subst (λ (n : ℕ). Covers shape (lane_at (with_state views from state) n).work) same
        (subst (λ (l : LaneView). Covers shape l.work) (sym (lane_with views from state (omega (arith, same, length_with views from state)))) (so.covers from (omega (arith, same, length_with views from state))))
    | inr ne ↦ subst (λ (l : LaneView). Covers shape l.work) (sym (lane_other views from i state ne)) (so.covers i (omega (arith, length_with views from state)))
  ];
}
  where
    here : (i : ℕ) → from ≡ i → i < length views → (lane_at (with_state views from state) i).state ≡ Done
    here i same lt =
        subst (λ (n : ℕ). (lane_at (with_state views from state) n).state ≡ Done) same
        (ap (λ (l : LaneView). l.state) (lane_with views from state (omega (arith, same, lt))) ∙ is (omega (arith, same, lt)))

-- ---- as many as there are clouds

abbrev AreLong : ℕ → List JobState → Type 0
AreLong n [] = Unit {0}
AreLong n (j ∷ jobs) = (length j.lanes ≡ n) × AreLong n jobs

long_at : (n : ℕ) (jobs : List JobState) (place : ℕ) → AreLong n jobs → length (lanes_at jobs place) ≤ n
long_at n [] place are = omega arith
long_at n (j ∷ jobs) zero are = omega (arith, are.0)
long_at n (j ∷ jobs) (suc place) are = long_at n jobs place are.1

long_put : (n : ℕ) (jobs : List JobState) (place i : ℕ) (state : LaneState) → AreLong n jobs → AreLong n (with_lanes_at jobs place (with_state (lanes_at jobs place) i state))
long_put n [] place i state are = tt
long_put n (j ∷ jobs) zero i state are = (length_with j.lanes i state ∙ are.0, are.1)
long_put n (j ∷ jobs) (suc place) i state are = (are.0, long_put n jobs place i state are.1)

long_more : (n : ℕ) (jobs : List JobState) (j : JobState) → AreLong n jobs → length j.lanes ≡ n → AreLong n (jobs ++ j ∷ [])
long_more n [] j are is = (is, tt)
long_more n (k ∷ jobs) j are is = (are.0, long_more n jobs j are.1 is)

module _ (s : Setting) where
  long_same : (old new : List JobState) → new ≡ old → AreLong s.shape.n old → AreLong s.shape.n new
  long_same old new same are = subst (AreLong s.shape.n) (sym same) are

  long_moved : (old new : List JobState) (job cloud : ℕ) (state : LaneState) (after : List LaneView) → after ≡ with_state (lanes_of old job) cloud state → new ≡ with_lanes old job after → AreLong s.shape.n old → AreLong s.shape.n new
  long_moved old new job cloud state after is put are =
      long_same (with_lanes old job (with_state (lanes_of old job) cloud state)) new (put ∙ ap (with_lanes old job) is) (long_put s.shape.n old (job - 1) cloud state are)

  long_finish : (job : ℕ) (clouds : List ℕ) (old : Vault) (answers : List Line) (moments : List Moment) (new : Vault) → FinishLanes s job clouds old answers moments new → AreLong s.shape.n old.jobs → AreLong s.shape.n new.jobs
  long_finish job [] old answers moments new f are = long_same old.jobs new.jobs (ap (λ (v : Vault). v.jobs) f.2) are
  long_finish job (cloud ∷ clouds) old answers moments new f are = long_finish job clouds f.3 f.5 f.6 new f.13 (long_moved old.jobs f.3.jobs job cloud f.1.lane.state f.4 f.9 f.10 are)

  long_lane : (job cloud : ℕ) (request : Option Request) (old : Vault) (answers : List Line) (moments : List Moment) (new : Vault) → LaneStep s job cloud request old answers moments new → AreLong s.shape.n old.jobs → AreLong s.shape.n new.jobs
  long_lane job cloud None old answers moments new x are = long_same old.jobs new.jobs (ap (λ (v : Vault). v.jobs) x.2) are
  long_lane job cloud (Some request) old answers moments new x are = long_moved old.jobs new.jobs job cloud _ x.2 x.6 x.7 are

  long_drop : (job cloud : ℕ) (request : Option Request) (old : Vault) (answers : List Line) (moments : List Moment) (new : Vault) → DropStep s job cloud request old answers moments new → AreLong s.shape.n old.jobs → AreLong s.shape.n new.jobs
  long_drop job cloud None old answers moments new x are = long_same old.jobs new.jobs (ap (λ (v : Vault). v.jobs) x.2) are
  long_drop job cloud (Some request) old answers moments new x are = long_same old.jobs new.jobs x.3 are

  long_step : (old : Vault) (event : Event) (answers : List Line) (moments : List Moment) (new : Vault) → VStep s old event answers moments new → AreLong s.shape.n old.jobs → AreLong s.shape.n new.jobs
  long_step old (events.Upload user path version bytes) answers moments new x are =
      let v = version_of user path version bytes in
      long_same (old.jobs ++ new_job s v ∷ []) new.jobs x.3 (long_more s.shape.n old.jobs (new_job s v) are
      (length-map (range_with_len 0 s.shape.n) (λ cloud. begun (work_of s.shape v cloud)) ∙ length-range_with_len 0 s.shape.n))
  long_step old (events.Step job lane) answers moments new x are = long_lane job lane.0 (lanes.request_at (lanes_of old.jobs job) lane.0) old answers moments new x are
  long_step old (events.Lose job lane) answers moments new x are = long_same old.jobs new.jobs (ap (λ (v : Vault). v.jobs) x.2) are
  long_step old (events.Drop job lane) answers moments new x are = long_drop job lane.0 (lanes.request_at (lanes_of old.jobs job) lane.0) old answers moments new x are
  long_step old (events.Finish job) answers moments new x are = long_finish job _ old x.0 moments new x.1 are
  long_step old (events.Get user path version clouds) answers moments new x are = long_same old.jobs new.jobs x.4 are
  long_step old (events.Arm cloud calls keep) answers moments new x are = long_same old.jobs new.jobs x.3 are
  long_step old (events.Restart cloud) answers moments new x are = long_same old.jobs new.jobs x.4 are
  long_step old (events.List user cloud) answers moments new x are = long_same old.jobs new.jobs x.5 are
  long_step old (events.Replace cloud) answers moments new x are = long_same old.jobs new.jobs x.4 are
  long_step old (events.Rebuild user target from) answers moments new x are = long_same old.jobs new.jobs x.1 are
  long_step old (events.Delete user path version cloud) answers moments new x are = long_same old.jobs new.jobs x.1 are

  long_turns : (history : List Answered) (old new : Vault) → Turns s old history new → AreLong s.shape.n old.jobs → AreLong s.shape.n new.jobs
  long_turns [] old new t are = long_same old.jobs new.jobs (ap (λ (v : Vault). v.jobs) t) are
  long_turns (a ∷ more) old new t are = long_turns more a.after new t.2 (long_step old a.event a.answers a.moments a.after t.1 are)

-- ---- a finish

map_has : (f : LaneNews → Line) (xs : List LaneNews) (x : LaneNews) → Contains xs x → Contains (map f xs) (f x)
map_has f [] x has = absurd (contains_nothing x has)
map_has f (y ∷ xs) x has = elim (contains_cases y xs x has) [
  | inl same ↦ subst (λ z. Contains (f y ∷ map f xs) (f z)) same (contains_here (f y) (map f xs))
  | inr later ↦ contains_later (f y) (map f xs) (f x) (map_has f xs x later)
]

module _ (s : Setting) (job : ℕ) (told : (cloud : ℕ) → cloud < s.shape.n → IsTrue (s.told cloud)) where
  finish_done : (count from : ℕ) (old : Vault) (answers : List Line) (moments : List Moment) (new : Vault) → from + count ≡ s.shape.n → FinishLanes s job (range_with_len from count) old answers moments new
      → length (lanes_of old.jobs job) ≤ s.shape.n → AreSoFar s.shape from (lanes_of old.jobs job) → ((cloud : ℕ) → cloud < s.shape.n → ¬ Rose (old.peers cloud).faults (new.peers cloud).faults)
      → ((line : Line) → Contains answers line → ¬ SaysRefused line) → all_done (lanes_of new.jobs job) ≡ true
  finish_done zero from old answers moments new all f long so still free =
      subst (λ (v : Vault). all_done (lanes_of v.jobs job) ≡ true) (sym f.2) (all_true (lanes_of old.jobs job) (λ i lt. so.done i (omega (arith, all, long, lt)) lt))
  finish_done (suc count) from old answers moments new all f long so still free =
      let views : List LaneView = lanes_of old.jobs job in
      let mid : Vault = f.3 in
      let below : from < s.shape.n = omega (arith, all) in
      let put : lanes_of mid.jobs job ≡ with_state views from f.1.lane.state = ap (λ (jobs : List JobState). lanes_of jobs job) (f.10 ∙ ap (with_lanes old.jobs job) f.9) ∙ lanes_put old.jobs (job - 1) from f.1.lane.state in
      let is : from < length views → f.1.lane.state ≡ Done = λ lt.
      run_done s from (told from below) job (starting (lane_at views from)) f.1 old.peers mid.peers f.0 f.2
      (record { covers = so.covers from lt; brought = λ lacked. absurd (let e : false ≡ true = lacked in cc); going = so.going from (omega arith) lt; on = refl }) f.7 f.8
      (λ rose. still from below (rose_on (old.peers from).faults (mid.peers from).faults (new.peers from).faults (λ g small le. keeps_finish g small s from job (range_with_len (from + 1) count) mid f.5 f.6 new f.13 le) rose))
      (λ news has. free (step_line job from news) (subst (λ (l : List Line). Contains l (step_line job from news)) (sym f.11)
      (Contains-append_left (map (step_line job from) f.2 ++ stored_line job views f.4) f.5 (step_line job from news)
      (Contains-append_left (map (step_line job from) f.2) (stored_line job views f.4) (step_line job from news) (map_has (step_line job from) f.2 news has))))) in
      finish_done count (from + 1) mid f.5 f.6 new (omega (arith, all)) f.13
      (omega (arith, long, ap (λ (l : List LaneView). length l) put, length_with views from f.1.lane.state))
      (subst (AreSoFar s.shape (from + 1)) (sym put) (one_further s.shape from views f.1.lane.state so is))
      (λ cloud lt rose. still cloud lt (then_rose (old.peers cloud).faults (mid.peers cloud).faults (new.peers cloud).faults
      (λ g small le. keeps_run g small s cloud from (starting (lane_at views from)) old.peers f.0 f.1 mid.peers f.7 le) rose))
      (λ line has. free line (subst (λ (l : List Line). Contains l line) (sym f.11) (Contains-append_right (map (step_line job from) f.2 ++ stored_line job views f.4) f.5 line has)))

-- the lanes of a job bring a version that may be uploaded, or there are none
job_covers : (shape : Shape) (jobs : List JobState) (place : ℕ) → AreJobs shape jobs → ((v : FileVersion) → Contains (versions jobs) v → IsRanged v) → (i : ℕ) → i < length (lanes_at jobs place) → Covers shape (lane_at (lanes_at jobs place) i).work
job_covers shape [] place are ranged i lt = absurd (omega arith)
job_covers shape (j ∷ jobs) zero are ranged i lt =
    let r = ranged j.version (contains_here j.version (versions jobs)) in
    subst (Covers shape) (sym (work_is shape j.version 0 j.lanes i are.0 lt)) (covered shape j.version (0 + i) r.path r.few)
job_covers shape (j ∷ jobs) (suc place) are ranged i lt = job_covers shape jobs place are.1 (λ v has. ranged v (contains_later j.version (versions jobs) v has)) i lt

pub stores_all : (clouds : ℕ → Cloud) (run : Session) → IsRun clouds run → StoresAll run
stores_all clouds run is earlier later a job e finish free =
    let s : Setting = run.setting in
    let at = splits s (opening clouds) earlier a later run.between (subst (λ (l : List Answered). Turns s (opening clouds) l run.between) e is.answered) in
    let before : Vault = at.mid in
    let brings : Brings s.shape before.jobs (uploads (script_of earlier)) = brings_turns s earlier (opening clouds) before [] at.front (record { are = tt; those = refl }) in
    let ranged : (v : FileVersion) → Contains (versions before.jobs) v → IsRanged v = λ v has.
    are_ranged s.shape 0 (script_in run) is.lines v (subst (λ (l : List Answered). Contains (uploads (script_of l ++ event_of run.begun)) v) (sym e)
    (uploads_front earlier (a ∷ later) (event_of run.begun) v (subst (λ (l : List FileVersion). Contains l v) brings.those has))) in
    let step : VStep s before (events.Finish job) a.answers a.moments a.after = subst (λ (ev : Event). VStep s before ev a.answers a.moments a.after) finish at.step in
    let long = long_at s.shape.n before.jobs (job - 1) (long_turns s earlier (opening clouds) before at.front tt) in
    let has_line : (line : Line) → Contains step.0 line → Contains a.answers line = λ line has. subst (λ (l : List Line). Contains l line) (sym step.2)
    (Contains-append_left step.0 (lines.End job (all_done (lanes_of a.after.jobs job)) ∷ []) line has) in
    let so : AreSoFar s.shape 0 (lanes_of before.jobs job) = record {
      done = λ i lt inside. absurd (omega (arith, lt));
      going = λ i le inside refused. free.going (lane_at (lanes_of before.jobs job) i) (subst (λ (v : Vault). Contains (lanes_of v.jobs job) (lane_at (lanes_of before.jobs job) i)) (sym at.before) (lane_has (lanes_of before.jobs job) i inside)) refused;
      covers = job_covers s.shape before.jobs (job - 1) brings.are ranged;
    } in
    let all : all_done (lanes_of a.after.jobs job) ≡ true = finish_done s job free.told s.shape.n 0 before step.0 a.moments a.after (omega arith) step.1 long so
    (λ cloud lt rose. free.still cloud lt (subst (λ (v : Vault). Rose (v.peers cloud).faults (a.after.peers cloud).faults) (sym at.before) rose)) (λ line has. free.free line (has_line line has)) in
    subst (λ (l : List Line). Contains l (lines.End job true)) (sym step.2)
    (subst (λ (b : Bool). Contains (step.0 ++ lines.End job b ∷ []) (lines.End job true)) (sym all) (Contains-append_right step.0 (lines.End job true ∷ []) (lines.End job true) (contains_here (lines.End job true) [])))

-- The jobs to which replies came.
use Rattle.std.proofs.Common.{◌≡◌, ℕ, ◌-◌, ◌<◌, Bool, true, false, List, [], length, refl, sym, ap, subst, inl, inr}
use Rattle.std.specs.Prelude.{◌↔◌, IsTrue, All, slice_index_or, slice_set}
use Rattle.std.proofs.lemmas.List.{length-set, get_or-set_same, get_or-set_other}
use Rattle.std.proofs.lemmas.List.Sums.{AllPass-from_list_all, list_all-from_AllPass}
use Rattle.std.proofs.lemmas.Bool.{cases_eq}
use Rattle.recipe.specs.CdBase.shape.Shape.{Shape}
use Rattle.session_model.specs.UploadJob.Lane.{LaneState, Asking, Sending, Committing, Done, Refused}
use Rattle.session_model.specs.UploadJob.Lanes.{LaneView}
use Rattle.session_jobs.specs.LaneSteps.Reached.{IsReached}
use Rattle.session_jobs.proofs.LaneSteps.Reaching.{reached_len}
use Rattle.session_jobs.proofs.Numbered.{place_in}
use Rattle.session_model.specs.Session.Spelling.{IsJob}
use Rattle.session_model.specs.Steps.{is_done, all_done}
use Rattle.script_lines.specs.Jobs.{job_lanes, with_job, AreReached}

module _ (shape : Shape) (jobs : List (List LaneView)) (job : ℕ) (is : IsJob (length jobs) job) where
  place : job - 1 < length jobs
  place = place_in jobs job is

  pub job_reached : AreReached shape jobs → IsReached shape (job_lanes jobs job)
  job_reached are = are (job - 1) [] place

  pub lane_below : (lane : ℕ) → AreReached shape jobs → lane < shape.n → lane < length (job_lanes jobs job)
  lane_below lane are lt = subst (λ (n : ℕ). lane < n) (sym (reached_len shape (job_lanes jobs job) (job_reached are))) lt

  -- the job has these lanes now
  pub lanes_with : (lanes : List LaneView) → job_lanes (with_job jobs job lanes) job ≡ lanes
  lanes_with lanes = get_or-set_same jobs (job - 1) lanes [] place

  pub reached_with : (lanes : List LaneView) → AreReached shape jobs → IsReached shape lanes → AreReached shape (with_job jobs job lanes)
  reached_with lanes are now k d lt = elim (cases_eq k (job - 1)) [
    | inl same ↦ subst (λ (n : ℕ). IsReached shape (slice_index_or (slice_set jobs (job - 1) lanes) n d)) (sym same) (subst (IsReached shape) (sym (get_or-set_same jobs (job - 1) lanes d place)) now)
    | inr ne ↦ subst (IsReached shape) (sym (get_or-set_other jobs (job - 1) k lanes d ne)) (are k d (subst (λ (n : ℕ). k < n) (length-set jobs (job - 1) lanes) lt))
  ]

pub count_with : (jobs : List (List LaneView)) (job : ℕ) (lanes : List LaneView) → length (with_job jobs job lanes) ≡ length jobs
count_with jobs job lanes = length-set jobs (job - 1) lanes

-- ---- all lanes at their ends

by_both : (a b : Bool) → (IsTrue a → IsTrue b) → (IsTrue b → IsTrue a) → a ≡ b
by_both true true f g = refl
by_both false false f g = refl
by_both true false f g = sym (f refl)
by_both false true f g = g refl

done_is : (state : LaneState) → IsTrue (is_done state) → state ≡ Done
done_is (Asking batch rest) e = absurd (let f : false ≡ true = e in cc)
done_is (Sending batch flags rest) e = absurd (let f : false ≡ true = e in cc)
done_is Committing e = absurd (let f : false ≡ true = e in cc)
done_is Done e = refl
done_is Refused e = absurd (let f : false ≡ true = e in cc)

pub all_done_is : (views : List LaneView) (b : Bool) → IsTrue b ↔ All (λ (lane : LaneView). lane.state ≡ Done) views → b ≡ all_done views
all_done_is views b both =
    by_both b (all_done views)
    (λ is. list_all-from_AllPass (λ (lane : LaneView). is_done lane.state) views (λ k d lt. ap is_done (both.0 is k d lt)))
    (λ all. both.1 (λ k d lt. done_is (slice_index_or views k d).state (AllPass-from_list_all (λ (lane : LaneView). is_done lane.state) views all k d lt)))

-- The lanes of a finish, one behind another, with what is counted of them.
use Rattle.std.proofs.Common.{◌≡◌, ℕ, ◌<◌, Bool, not, ◌&&◌, List, [], ◌∷◌, ◌++◌, map, length, refl, sym, ap, ◌∙◌, subst, append-nil}
use Rattle.std.specs.Prelude.{Ok, Err}
use Rattle.lane_steps.specs.CdEdges.Disk.{Cloud}
use Rattle.subset_restore.specs.UserDedup.Link.{Talk}
use Rattle.lane_steps.specs.UploadJob.news.LaneNews.{LaneNews}
use Rattle.lane_steps.specs.UploadJob.Lanes.{LaneView, with_state}
use Rattle.lane_steps.specs.Runs.{starting, lane_at}
use Rattle.lane_steps.specs.Steps.{Heard, Finishes}
use Rattle.replay_core.specs.LocalLink.link.LocalLink.{LocalLink}
use Rattle.replay_core.specs.LocalLink.Tells.{telling}
use Rattle.replay_core.specs.Session.Spelling.{IsJob}
use Rattle.subset_restore.specs.Transcript.line.Line.{Line}
use Rattle.replay_core.specs.SessionModel.Vault.{Setting, Vault, HasVaultExecuted, lanes_of, with_lanes}
use Rattle.replay_core.specs.SessionModel.Steps.{moment_of, step_line, all_done, stored_line}
use Rattle.replay_core.specs.Session.Texts.{text_of}
use Rattle.replay_core.specs.ScriptLines.At.{IsAtVault}
use Rattle.replay_core.specs.ScriptLines.Jobs.{job_lanes, with_job}
use Rattle.replay_core.specs.ScriptLines.Stepping.{stored_if}
use Rattle.replay_core.specs.ScriptLines.Finishing.{Finished, FinishedPart}
use Rattle.replay_core.proofs.ScriptLines.Going.{images_still}
use Rattle.replay_core.proofs.ScriptLines.Walking.{views_are, jobs_with, run_along, along_run, walk}
use Rattle.replay_core.proofs.ScriptLines.Lines.{stored_same}
use Rattle.replay_core.proofs.ScriptLines.Bringing.{lanes_join, first_lanes, images_later, part_join}
use Rattle.generated_session.specs.declared.numbers.Numbers.{Numbers}
use Rattle.generated_session.specs.Progress.{HasAddedAnswers, Brings}
use Rattle.generated_session.proofs.Tallies.{adds_none, adds_join}

module _ {V : Type 0} (clouds : V → ℕ → Cloud) (s : Setting) (job : ℕ) where
  pub brings_none : (old : LocalLink V) (jobs : List (List LaneView)) (v : Vault) (n : Numbers) → IsAtVault clouds s old jobs v → Brings clouds s job [] old old jobs v n n
  brings_none old jobs v n is = record {
    answers = [];
    moments = [];
    after = v;
    lanes_run = (refl, refl, refl);
    is_at = is;
    images = images_still clouds s old old v.peers [] is.link_at refl;
    adds = adds_none n;
  }

  pub brings_join : (xs ys : List ℕ) (old mid new : LocalLink V) (jobs more : List (List LaneView)) (v : Vault) (n k m : Numbers) → (f : Brings clouds s job xs old mid jobs v n k)
      → Brings clouds s job ys mid new more f.after k m → Brings clouds s job (xs ++ ys) old new more v n m
  brings_join xs ys old mid new jobs more v n k m f g = record {
    answers = f.answers ++ g.answers;
    moments = f.moments ++ g.moments;
    after = g.after;
    lanes_run = lanes_join s job xs ys v f.after g.after f.answers g.answers f.moments g.moments f.lanes_run g.lanes_run;
    is_at = g.is_at;
    images = images_later clouds s job old mid new f.moments g.moments f.after.peers g.after.peers (first_lanes s job ys f.after g.answers g.moments g.after g.lanes_run) f.images g.images;
    adds = adds_join f.answers g.answers n k m f.adds g.adds;
  }

  -- some lanes came to their ends, and want of memory cut those behind
  pub brings_cut : (xs ys : List ℕ) (old mid new : LocalLink V) (jobs : List (List LaneView)) (v : Vault) (n k : Numbers) → (f : Brings clouds s job xs old mid jobs v n k)
      → FinishedPart clouds s job ys mid new f.after → FinishedPart clouds s job (xs ++ ys) old new v
  brings_cut xs ys old mid new jobs v n k f g =
      part_join clouds s job xs ys old mid new jobs v [] (text_of f.answers)
      (record { answers = f.answers; moments = f.moments; after = f.after; lanes_run = f.lanes_run; is_at = f.is_at; text_is = refl; images = f.images }) g

module _ {V : Type 0} (clouds : V → ℕ → Cloud) (talk : LocalLink V → ℕ → Talk → Type 0) (s : Setting) (job cloud : ℕ) where
  one_brought : (old new : LocalLink V) (jobs : List (List LaneView)) (v : Vault) (after : List LaneView) (now : List LaneNews) (stored : Bool) (n m : Numbers) → IsAtVault clouds s old jobs v → cloud < s.shape.n
      → Finishes (telling clouds) talk cloud old (lanes_of v.jobs job) [] (Ok tt) new after now → stored ≡ (not (all_done (lanes_of v.jobs job)) && all_done after)
      → HasAddedAnswers (map (step_line job cloud) now ++ stored_if job stored) n m → Brings clouds s job (cloud ∷ []) old new (with_job jobs job after) v n m
  one_brought old new jobs v after now stored n m is lt f e adds =
      let views = lanes_of v.jobs job in
      let run = run_along (Heard (telling clouds) talk cloud) (starting (lane_at views cloud)) old f.0 f.1 new f.3 in
      let w = walk clouds talk s cloud (starting (lane_at views cloud)) old f.0 f.1 new v.peers is.link_at lt run.0 in
      let lines_of = map (step_line job cloud) f.2 ++ stored_line job views after in
      let same : map (step_line job cloud) now ++ stored_if job stored ≡ lines_of = ap (λ (l : List LaneNews). map (step_line job cloud) l ++ stored_if job stored) f.5 ∙ ap (λ (l : List Line). map (step_line job cloud) f.2 ++ l) (sym (stored_same job views after stored e)) in
      record {
        answers = lines_of;
        moments = map (moment_of cloud) w.walked;
        after = record { peers = w.mid; jobs = with_lanes v.jobs job after };
        lanes_run = (
          w.walked,
          f.1,
          f.2,
          record { peers = w.mid; jobs = with_lanes v.jobs job after },
          after,
          [],
          [],
          along_run (HasVaultExecuted s cloud) (starting (lane_at views cloud)) v.peers w.walked f.1 w.mid w.along run.1,
          w.tells (lane_at views cloud) f.2 f.4,
          f.6,
          refl,
          sym (append-nil lines_of),
          sym (append-nil (map (moment_of cloud) w.walked)),
          (refl, refl, refl),
        );
        is_at = record { link_at = w.link_at; jobs_are = jobs_with v.jobs jobs job after is.jobs_are };
        images = w.images;
        adds = subst (λ (l : List Line). HasAddedAnswers l n m) same adds;
      }

  -- the job has these lanes by its number
  pub lane_brought : (old new : LocalLink V) (jobs : List (List LaneView)) (v : Vault) (views after : List LaneView) (now : List LaneNews) (before is_now : Bool) (n m : Numbers) → IsAtVault clouds s old jobs v → cloud < s.shape.n
      → job_lanes jobs job ≡ views → Finishes (telling clouds) talk cloud old views [] (Ok tt) new after now → before ≡ all_done views → is_now ≡ all_done after
      → HasAddedAnswers (map (step_line job cloud) now ++ stored_if job (not before && is_now)) n m → Brings clouds s job (cloud ∷ []) old new (with_job jobs job after) v n m
  lane_brought old new jobs v views after now before is_now n m is lt same f was becomes adds =
      let views_same : views ≡ lanes_of v.jobs job = sym same ∙ sym (views_are v.jobs jobs job is.jobs_are) in
      one_brought old new jobs v after now (not before && is_now) n m is lt
      (subst (λ (l : List LaneView). Finishes (telling clouds) talk cloud old l [] (Ok tt) new after now) views_same f)
      (ap (λ (b : Bool). not b && is_now) (was ∙ ap all_done views_same) ∙ ap (λ (b : Bool). not (all_done (lanes_of v.jobs job)) && b) becomes) adds

-- What each line does to a vault.
use Rattle.std.proofs.Common.{◌≡◌, ℕ, ◌<◌, Bool, true, false, not, ◌&&◌, List, [], ◌∷◌, ◌++◌, length, Option, Some, None, refl, sym, ap, ◌∙◌, subst, inl, inr, ◌⊎◌, append_assoc}
use Rattle.std.specs.Prelude.{◌↔◌, Result, Ok, Err, IsOk, OnOk, OnErr}
use Rattle.std.proofs.lemmas.Grind.{flat_map-append}
use Rattle.recipe.specs.CdBase.ids.NoMemory.{NoMemory}
use Rattle.recipe.specs.CdBase.shape.Shape.{Shape}
use Rattle.session_model.specs.CdEdges.Disk.{Cloud}
use Rattle.deletions.specs.Messages.request.Request.{Request}
use Rattle.deletions.specs.Messages.reply.Reply.{Reply}
use Rattle.session_model.specs.UserDedup.Link.{Talk}
use Rattle.session_model.specs.UploadJob.news.LaneNews.{LaneNews}
use Rattle.session_model.specs.UploadJob.Lane.{news_of}
use Rattle.session_model.specs.UploadJob.Lanes.{LaneView, with_state, request_at}
use Rattle.session_jobs.specs.LaneSteps.Runs.{moved, lane_at}
use Rattle.session_jobs.specs.LaneSteps.error.StepErr.{StepErr}
use Rattle.session_jobs.specs.LaneSteps.error.StepErr.TheVariants as step_errors
use Rattle.session_jobs.specs.LaneSteps.Steps.{Heard, Untaken, LaneSteps, IsNothingLost}
use Rattle.session_model.specs.LocalLink.link.LocalLink.{LocalLink}
use Rattle.session_model.specs.LocalLink.Tells.{telling}
use Rattle.session_model.specs.Session.Spelling.{IsJob}
use Rattle.session_model.specs.Session.event.Event.TheVariants as events
use Rattle.session_model.specs.Transcript.line.Line.{Line}
use Rattle.session_model.specs.Transcript.Transcript.{line_text}
use Rattle.session_model.specs.Vault.{Setting, Vault, lanes_of, with_lanes}
use Rattle.session_model.specs.Steps.{Moment, quiet, cloud_no, step_line, all_done, stored_line, LaneStep}
use Rattle.session_model.specs.Headline.{IsPartOf}
use Rattle.session_model.specs.Session.Texts.{text_of}
use Rattle.session_model.proofs.Parts.{put}
use Rattle.script_lines.specs.declared.error.CarryErr.{CarryErr}
use Rattle.script_lines.specs.At.{LinkAt, IsAtVault, KeepsOtherClouds}
use Rattle.script_lines.specs.Does.{Images, Goes, IsLineCut}
use Rattle.script_lines.specs.Jobs.{job_lanes, with_job}
use Rattle.script_lines.specs.Stepping.{stored_if, step_lines, IsTold}
use Rattle.script_lines.proofs.Going.{before_exec, images_still, leaves_rest, leaves_all, cut_behind, cut_before}
use Rattle.script_lines.proofs.Reaching.{lanes_with}
use Rattle.script_lines.proofs.Walking.{views_are, jobs_with, same_job, heard_step}

-- ---- small

pub on_ok : {T E : Type 0} (r : Result T E) (P Q : Type 0) → (P → Q) → OnOk r P → OnOk r Q
on_ok (Ok x) P Q f p = f p
on_ok (Err e) P Q f p = tt

pub both_ok : {T E : Type 0} (r : Result T E) (P Q R : Type 0) → (P → Q → R) → OnOk r P → OnOk r Q → OnOk r R
both_ok (Ok x) P Q R f p q = f p q
both_ok (Err e) P Q R f p q = tt

pub on_err : {T E : Type 0} (r : Result T E) (P : Type 0) → P → OnErr r P
on_err (Ok x) P p = tt
on_err (Err e) P p = p

-- a line whose only error is want of memory
pub for_ok : (done : Result (Unit {0}) NoMemory) (result : Result (Unit {0}) CarryErr) (P : Type 0) → IsOk result ↔ IsOk done → OnOk done P → OnOk result P
for_ok (Ok u) (Ok w) P same p = p
for_ok (Err e) (Ok w) P same p = absurd (let f : false ≡ true = same.0 refl in cc)
for_ok done (Err e) P same p = tt

pub text_join : (xs ys : List Line) → text_of (xs ++ ys) ≡ text_of xs ++ text_of ys
text_join xs ys = flat_map-append line_text xs ys

-- a line or more behind those that stand there
pub text_more : (before mid text : List ℕ) (xs ys : List Line) → mid ≡ before ++ text_of xs → text ≡ mid ++ text_of ys → text ≡ before ++ text_of (xs ++ ys)
text_more before mid text xs ys one two =
    two ∙ ap (λ (l : List ℕ). l ++ text_of ys) one ∙ append_assoc before (text_of xs) (text_of ys) ∙ ap (λ (l : List ℕ). before ++ l) (sym (text_join xs ys))

pub stored_same : (job : ℕ) (old new : List LaneView) (stored : Bool) → stored ≡ (not (all_done old) && all_done new) → stored_line job old new ≡ stored_if job stored
stored_same job old new stored e = ap (stored_if job) (sym e)

-- ---- what stays

module _ {V : Type 0} (clouds : V → ℕ → Cloud) (talk : LocalLink V → ℕ → Talk → Type 0) (cloud : ℕ) where
  still : (old new : LocalLink V) → new ≡ old → KeepsOtherClouds clouds old new × (new.shelf.ghost_name ≡ old.shelf.ghost_name)
  still old new same = (leaves_all clouds old new same, ap (λ (l : LocalLink V). l.shelf.ghost_name) same)

  -- what stays
  pub step_leaves : (asks : Option Request) (views after : List LaneView) (old new : LocalLink V) (came : Result (Option LaneNews) StepErr) → LaneSteps (telling clouds) talk cloud old views asks came new after
      → KeepsOtherClouds clouds old new × (new.shelf.ghost_name ≡ old.shelf.ghost_name)
  step_leaves None views after old new (Ok None) steps = still old new steps.0
  step_leaves None views after old new (Ok (Some told)) steps = absurd steps
  step_leaves None views after old new (Err step_errors.NoMemory) steps = still old new steps.0
  step_leaves None views after old new (Err step_errors.Lost) steps = absurd steps
  step_leaves None views after old new (Err (step_errors.Strange kind)) steps = absurd steps
  step_leaves (Some request) views after old new (Ok None) steps = absurd steps
  step_leaves (Some request) views after old new (Ok (Some told)) steps = let p = steps.3.passed.passes in (leaves_rest clouds old new cloud p.reached p.rest, p.same_reference)
  step_leaves (Some request) views after old new (Err step_errors.NoMemory) steps = by_taken steps.0
    where
      by_taken : (new ≡ old) ⊎ Untaken (telling clouds) talk cloud (lane_at views cloud) old request new → KeepsOtherClouds clouds old new × (new.shelf.ghost_name ≡ old.shelf.ghost_name)
      by_taken (inl same) = still old new same
      by_taken (inr u) = let p = u.passed.passes in (leaves_rest clouds old new cloud p.reached p.rest, p.same_reference)
  step_leaves (Some request) views after old new (Err step_errors.Lost) steps = let p = steps.0.passes in (leaves_rest clouds old new cloud p.reached p.rest, p.same_reference)
  step_leaves (Some request) views after old new (Err (step_errors.Strange kind)) steps = let p = steps.0.passed.passes in (leaves_rest clouds old new cloud p.reached p.rest, p.same_reference)

-- ---- a step

module _ {V : Type 0} (clouds : V → ℕ → Cloud) (talk : LocalLink V → ℕ → Talk → Type 0) (s : Setting) (job cloud : ℕ) where
  -- the lane's step, with these lines
  pub record LaneGoes (asks : Option Request) (old new : LocalLink V) (jobs : List (List LaneView)) (v : Vault) (answers : List Line) : Type 0 where
    pub moments : List Moment
    pub after : Vault
    pub is_at : IsAtVault clouds s new jobs after
    pub step : LaneStep s job cloud asks v answers moments after
    pub images : Images clouds s old new moments after.peers

  -- it came to something, or memory ran out
  abbrev pub LaneCame : Option Request → LocalLink V → LocalLink V → List (List LaneView) → Vault → Result (Option LaneNews) StepErr → Bool → Type 0
  LaneCame asks old new jobs v (Err step_errors.NoMemory) stored = (new ≡ old) ⊎ ((lines_of : List Line) × (others : List (List LaneView)) × LaneGoes asks old new others v lines_of)
  LaneCame asks old new jobs v came stored = LaneGoes asks old new jobs v (step_lines job cloud came stored)

  -- the vault behind a request that the lane took
  went : (old new : LocalLink V) (jobs : List (List LaneView)) (v : Vault) (request : Request) (reply : Reply) (told : LaneNews) (after : List LaneView) (answers : List Line) → IsAtVault clouds s old jobs v → cloud < s.shape.n
      → Heard (telling clouds) talk cloud old request reply new → news_of (lane_at (lanes_of v.jobs job) cloud).state reply ≡ Some told
      → after ≡ with_state (lanes_of v.jobs job) cloud (moved (lane_at (lanes_of v.jobs job) cloud) reply).state
      → answers ≡ step_line job cloud told ∷ stored_line job (lanes_of v.jobs job) after
      → LaneGoes (Some request) old new (with_job jobs job after) v answers
  went old new jobs v request reply told after answers is lt heard news moves answer =
      let step = heard_step clouds talk s old new v.peers cloud request reply is.link_at lt heard in
      record {
        moments = before_exec v.peers cloud request reply ∷ [];
        after = record { peers = put v.peers cloud step.left; jobs = with_lanes v.jobs job after };
        is_at = record { link_at = step.link_at; jobs_are = jobs_with v.jobs jobs job after is.jobs_are };
        step = (reply, told, after, step.exec, refl, news, moves, refl, answer);
        images = step.images (put v.peers cloud step.left);
      }

  pub came_to : (asks : Option Request) (old new : LocalLink V) (jobs : List (List LaneView)) (v : Vault) (came : Result (Option LaneNews) StepErr) (after : List LaneView) (stored : Bool) → IsAtVault clouds s old jobs v → cloud < s.shape.n
      → LaneSteps (telling clouds) talk cloud old (lanes_of v.jobs job) asks came new after → IsNothingLost came
      → stored ≡ (not (all_done (lanes_of v.jobs job)) && all_done after)
      → LaneCame asks old new (with_job jobs job after) v came stored
  came_to None old new jobs v (Ok None) after stored is lt steps found e = record {
    moments = quiet v.peers;
    after = v;
    is_at = record {
      link_at = subst (λ (l : LocalLink V). LinkAt clouds s l v.peers) (sym steps.0) is.link_at;
      jobs_are = is.jobs_are ∙ sym (same_job jobs job after (steps.1 ∙ views_are v.jobs jobs job is.jobs_are));
    };
    step = (refl, refl, refl);
    images = images_still clouds s old new v.peers (quiet v.peers) is.link_at steps.0;
  }
  came_to None old new jobs v (Ok (Some told)) after stored is lt steps found e = absurd steps
  came_to None old new jobs v (Err step_errors.NoMemory) after stored is lt steps found e = inl steps.0
  came_to None old new jobs v (Err step_errors.Lost) after stored is lt steps found e = absurd steps
  came_to None old new jobs v (Err (step_errors.Strange kind)) after stored is lt steps found e = absurd steps
  came_to (Some request) old new jobs v (Ok None) after stored is lt steps found e = absurd steps
  came_to (Some request) old new jobs v (Ok (Some told)) after stored is lt steps found e =
      went old new jobs v request steps.0 told after (step_line job cloud told ∷ stored_if job stored) is lt steps.3 steps.2 steps.4
      (ap (λ (l : List Line). step_line job cloud told ∷ l) (sym (stored_same job (lanes_of v.jobs job) after stored e)))
  came_to (Some request) old new jobs v (Err step_errors.NoMemory) after stored is lt steps found e = untaken steps.0
    where
      untaken : (new ≡ old) ⊎ Untaken (telling clouds) talk cloud (lane_at (lanes_of v.jobs job) cloud) old request new
          → (new ≡ old) ⊎ ((lines_of : List Line) × (others : List (List LaneView)) × LaneGoes (Some request) old new others v lines_of)
      untaken (inl same) = inl same
      untaken (inr u) =
          let h = u.heard (v.peers cloud) (is.link_at.stands cloud lt) in
          let views = lanes_of v.jobs job in
          let next = with_state views cloud (moved (lane_at views cloud) h.0).state in
          inr (step_line job cloud h.1 ∷ stored_line job views next, with_job jobs job next, went old new jobs v request h.0 h.1 next (step_line job cloud h.1 ∷ stored_line job views next) is lt h.3 h.2 refl refl)
  came_to (Some request) old new jobs v (Err step_errors.Lost) after stored is lt steps found e = absurd found
  came_to (Some request) old new jobs v (Err (step_errors.Strange kind)) after stored is lt steps found e =
      absurd (steps.0.unheard (v.peers cloud) (is.link_at.stands cloud lt))

  -- ---- the line of a step

  pub step_goes : (old new : LocalLink V) (jobs : List (List LaneView)) (v : Vault) (came : Result (Option LaneNews) StepErr) (stored : Bool) → IsTold came
      → LaneCame (request_at (lanes_of v.jobs job) cloud) old new jobs v came stored
      → Goes clouds s (events.Step job (cloud_no cloud)) old new jobs v (step_lines job cloud came stored)
  step_goes old new jobs v (Ok told) stored is g = record { moments = g.moments; after = g.after; is_at = g.is_at; step = g.step; images = g.images }
  step_goes old new jobs v (Err step_errors.Lost) stored is g = record { moments = g.moments; after = g.after; is_at = g.is_at; step = g.step; images = g.images }
  step_goes old new jobs v (Err (step_errors.Strange kind)) stored is g = record { moments = g.moments; after = g.after; is_at = g.is_at; step = g.step; images = g.images }
  step_goes old new jobs v (Err step_errors.NoMemory) stored is g = absurd is

  pub step_cut : (old new : LocalLink V) (jobs before : List (List LaneView)) (v : Vault) (came : Result (Option LaneNews) StepErr) (stored : Bool) → IsAtVault clouds s old before v
      → IsPartOf s v (record { event = events.Step job (cloud_no cloud); moments = [] }) v.peers
      → LaneCame (request_at (lanes_of v.jobs job) cloud) old new jobs v came stored
      → IsLineCut clouds s (events.Step job (cloud_no cloud)) old new v
  step_cut old new jobs before v (Ok told) stored is part g =
      cut_behind clouds s (events.Step job (cloud_no cloud)) old new jobs v (step_lines job cloud (Ok told) stored) (record { moments = g.moments; after = g.after; is_at = g.is_at; step = g.step; images = g.images })
  step_cut old new jobs before v (Err step_errors.Lost) stored is part g =
      cut_behind clouds s (events.Step job (cloud_no cloud)) old new jobs v _ (record { moments = g.moments; after = g.after; is_at = g.is_at; step = g.step; images = g.images })
  step_cut old new jobs before v (Err (step_errors.Strange kind)) stored is part g =
      cut_behind clouds s (events.Step job (cloud_no cloud)) old new jobs v _ (record { moments = g.moments; after = g.after; is_at = g.is_at; step = g.step; images = g.images })
  step_cut old new jobs before v (Err step_errors.NoMemory) stored is part (inl same) = cut_before clouds s (events.Step job (cloud_no cloud)) old new before v is same part
  step_cut old new jobs before v (Err step_errors.NoMemory) stored is part (inr x) =
      cut_behind clouds s (events.Step job (cloud_no cloud)) old new x.1 v x.0 (record { moments = x.2.moments; after = x.2.after; is_at = x.2.is_at; step = x.2.step; images = x.2.images })

  -- the step of a job by its number
  pub step_came : (old new : LocalLink V) (jobs later : List (List LaneView)) (v : Vault) (came : Result (Option LaneNews) StepErr) (after : List LaneView) (before now stored : Bool) → IsAtVault clouds s old jobs v → cloud < s.shape.n
      → IsJob (length jobs) job → later ≡ with_job jobs job after → LaneSteps (telling clouds) talk cloud old (job_lanes jobs job) (request_at (job_lanes jobs job) cloud) came new after → IsNothingLost came
      → before ≡ all_done (job_lanes jobs job) → now ≡ all_done (job_lanes later job) → stored ≡ (not before && now) → LaneCame (request_at (lanes_of v.jobs job) cloud) old new later v came stored
  step_came old new jobs later v came after before now stored is lt number put steps found was is_now e =
      subst (λ (l : List (List LaneView)). LaneCame (request_at (lanes_of v.jobs job) cloud) old new l v came stored) (sym put)
      (came_to (request_at (lanes_of v.jobs job) cloud) old new jobs v came after stored is lt
      (subst (λ (views : List LaneView). LaneSteps (telling clouds) talk cloud old views (request_at views cloud) came new after) (sym views) steps) found
      (e ∙ ap (λ (b : Bool). not b && now) (was ∙ ap all_done (sym views)) ∙ ap (λ (b : Bool). not (all_done (lanes_of v.jobs job)) && b) (is_now ∙ ap all_done (ap (λ (l : List (List LaneView)). job_lanes l job) put ∙ lanes_with shape_any jobs job number after))))
    where
      views : lanes_of v.jobs job ≡ job_lanes jobs job
      views = views_are v.jobs jobs job is.jobs_are

      shape_any : Shape
      shape_any = s.shape

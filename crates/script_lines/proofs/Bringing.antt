-- The lanes of a finish, one behind another.
use Rattle.std.proofs.Common.{◌≡◌, ℕ, zero, suc, ◌+◌, ◌-◌, ◌<◌, Bool, not, length, ◌&&◌, List, [], ◌∷◌, ◌++◌, map, Option, Some, None, refl, sym, ap, ◌∙◌, subst, inl, inr, ◌⊎◌, arith, append-nil, append_assoc}
use Rattle.std.specs.Prelude.{Result, Ok, Err}
use Rattle.std.specs.List.{Contains, range_with_len}
use Rattle.std.proofs.lemmas.List.{map-append}
use Rattle.std.proofs.lemmas.List.Elements.{Contains-append_left, Contains-append_right}
use Rattle.session_model.specs.CdEdges.Disk.{Cloud}
use Rattle.session_model.proofs.CdEdges.Moments.{joined}
use Rattle.session_model.specs.CloudAreas.Peers.{StandsForSome}
use Rattle.deletions.specs.Messages.request.Request.{Request}
use Rattle.deletions.specs.Messages.reply.Reply.{Reply}
use Rattle.session_model.specs.UserDedup.command.Command.{Command}
use Rattle.session_model.specs.UserDedup.Exec.{Peer, MaySettleAs}
use Rattle.session_model.specs.UserDedup.Link.{Talk}
use Rattle.session_model.proofs.UserDedup.Owned.{contains_here}
use Rattle.session_model.proofs.Parts.{put}
use Rattle.session_model.specs.UploadJob.news.LaneNews.{LaneNews}
use Rattle.session_model.specs.UploadJob.Lane.{LaneState, news_of}
use Rattle.session_model.specs.UploadJob.Lanes.{LaneView, with_state}
use Rattle.session_jobs.specs.LaneSteps.Runs.{LaneTurn, Progress, starting, request_of, progress_after, LaneRun, LaneAlong, Tell, lane_at}
use Rattle.session_jobs.specs.LaneSteps.error.StepErr.{StepErr}
use Rattle.session_jobs.specs.LaneSteps.error.StepErr.TheVariants as step_errors
use Rattle.session_jobs.specs.LaneSteps.Steps.{Heard, Untaken, LaneSteps, Finishes, IsNothingLost}
use Rattle.session_model.specs.LocalLink.link.LocalLink.{LocalLink}
use Rattle.session_model.specs.LocalLink.Tells.{telling}
use Rattle.session_model.specs.Session.Spelling.{IsJob}
use Rattle.session_model.specs.Session.event.Event.TheVariants as events
use Rattle.session_model.specs.Transcript.line.Line.{Line}
use Rattle.session_model.specs.Transcript.line.Line.TheVariants as lines
use Rattle.session_model.specs.Vault.{Setting, JobState, Vault, HasVaultExecuted, lanes_of, with_lanes}
use Rattle.session_model.specs.Steps.{Moment, moment_of, step_line, all_done, stored_line, FinishLanes}
use Rattle.session_model.specs.Run.{IsListIn}
use Rattle.session_model.specs.Headline.{IsPartOf}
use Rattle.session_model.specs.Cut.{FinishCut}
use Rattle.session_model.specs.Session.Texts.{text_of}
use Rattle.script_lines.specs.At.{LinkAt, IsAtVault, KeepsOtherClouds, header_in}
use Rattle.script_lines.specs.Does.{Images, DoesLine, IsLineCut}
use Rattle.script_lines.specs.Jobs.{job_lanes, with_job}
use Rattle.script_lines.specs.Stepping.{stored_if}
use Rattle.script_lines.specs.Finishing.{lane_lines, IsBrought, Finished, FinishedPart}
use Rattle.script_lines.proofs.Going.{leaves_join, left_at, images_weaker, images_still}
use Rattle.script_lines.proofs.Walking.{views_are, jobs_with, run_along, along_run, along_more, heard_step, Walked, walk, along_leaves}
use Rattle.script_lines.proofs.Reaching.{lanes_with}
use Rattle.script_lines.proofs.Lines.{text_more, stored_same, step_leaves}

-- ---- definitions joined

-- the first moment has these clouds, or there is none and they stay
abbrev pub First : (ℕ → Peer) → List Moment → (ℕ → Peer) → Type 0
First old moments new = ((moments ≡ []) × (new ≡ old)) ⊎ ((m : Moment) × (rest : List Moment) × (moments ≡ m ∷ rest) × (m.peers ≡ old))

module _ (s : Setting) (job : ℕ) where
  first_run : (cloud : ℕ) (p : Progress) (old : ℕ → Peer) (turns : List (LaneTurn (ℕ → Peer))) (last : Progress) (mid : ℕ → Peer) (rest moments : List Moment) (new : ℕ → Peer) → LaneAlong (HasVaultExecuted s cloud) p old turns last mid
      → First mid rest new → moments ≡ map (moment_of cloud) turns ++ rest → First old moments new
  first_run cloud p old [] last mid rest moments new along (inl x) e = inl (e ∙ x.0, x.1 ∙ along.1)
  first_run cloud p old [] last mid rest moments new along (inr x) e = inr (x.0, x.1, e ∙ x.2, x.3 ∙ along.1)
  first_run cloud p old (t ∷ turns) last mid rest moments new along first e = inr (moment_of cloud t, map (moment_of cloud) turns ++ rest, e, along.1)

  pub first_lanes : (clouds : List ℕ) (old : Vault) (answers : List Line) (moments : List Moment) (new : Vault) → FinishLanes s job clouds old answers moments new → First old.peers moments new.peers
  first_lanes [] old answers moments new f = inl (f.1, ap (λ (v : Vault). v.peers) f.2)
  first_lanes (cloud ∷ clouds) old answers moments new f =
      first_run cloud (starting (lane_at (lanes_of old.jobs job) cloud)) old.peers f.0 f.1 f.3.peers f.6 moments new.peers
      (run_along (HasVaultExecuted s cloud) (starting (lane_at (lanes_of old.jobs job) cloud)) old.peers f.0 f.1 f.3.peers f.7).0 (first_lanes clouds f.3 f.5 f.6 new f.13) f.12

  first_cut : (clouds : List ℕ) (old : Vault) (moments : List Moment) (last : ℕ → Peer) → FinishCut s job clouds old moments last → First old.peers moments last
  first_cut [] old moments last f = inl (f.0, f.1)
  first_cut (cloud ∷ clouds) old moments last f = by_where f.5 (λ after rest last c. first_cut clouds after rest last c)
    where
      by_where : ((LaneAlong (HasVaultExecuted s cloud) (starting (lane_at (lanes_of old.jobs job) cloud)) old.peers f.0 f.1 f.3) × (moments ≡ map (moment_of cloud) f.0) × (last ≡ f.3))
          ⊎ ((LaneRun (HasVaultExecuted s cloud) (starting (lane_at (lanes_of old.jobs job) cloud)) old.peers f.0 f.1 f.3) × ((rest : List Moment) × (moments ≡ map (moment_of cloud) f.0 ++ rest)
          × FinishCut s job clouds (record { peers = f.3; jobs = with_lanes old.jobs job (with_state (lanes_of old.jobs job) cloud f.1.lane.state) }) rest last))
          → ((after : Vault) (rest : List Moment) (last : ℕ → Peer) → FinishCut s job clouds after rest last → First after.peers rest last) → First old.peers moments last
      by_where (inl x) again = first_run cloud (starting (lane_at (lanes_of old.jobs job) cloud)) old.peers f.0 f.1 f.3 [] moments last x.0 (inl (refl, x.2)) (x.1 ∙ sym (append-nil (map (moment_of cloud) f.0)))
      by_where (inr x) again =
          first_run cloud (starting (lane_at (lanes_of old.jobs job) cloud)) old.peers f.0 f.1 f.3 x.1.0 moments last
          (run_along (HasVaultExecuted s cloud) (starting (lane_at (lanes_of old.jobs job) cloud)) old.peers f.0 f.1 f.3 x.0).0
          (again (record { peers = f.3; jobs = with_lanes old.jobs job (with_state (lanes_of old.jobs job) cloud f.1.lane.state) }) x.1.0 last x.1.2) x.1.1

  pub lanes_join : (xs ys : List ℕ) (old mid new : Vault) (one two : List Line) (before behind : List Moment) → FinishLanes s job xs old one before mid → FinishLanes s job ys mid two behind new
      → FinishLanes s job (xs ++ ys) old (one ++ two) (before ++ behind) new
  lanes_join [] ys old mid new one two before behind f g =
      subst (λ (l : List Line). FinishLanes s job ys old (l ++ two) (before ++ behind) new) (sym f.0)
      (subst (λ (l : List Moment). FinishLanes s job ys old two (l ++ behind) new) (sym f.1) (subst (λ (v : Vault). FinishLanes s job ys v two behind new) f.2 g))
  lanes_join (cloud ∷ xs) ys old mid new one two before behind f g = (
    f.0,
    f.1,
    f.2,
    f.3,
    f.4,
    f.5 ++ two,
    f.6 ++ behind,
    f.7,
    f.8,
    f.9,
    f.10,
    ap (λ (l : List Line). l ++ two) f.11 ∙ append_assoc (map (step_line job cloud) f.2 ++ stored_line job (lanes_of old.jobs job) f.4) f.5 two,
    ap (λ (l : List Moment). l ++ behind) f.12 ∙ append_assoc (map (moment_of cloud) f.0) f.6 behind,
    lanes_join xs ys f.3 mid new f.5 two f.6 behind f.13 g,
  )

  -- a cut before any of these lanes has moved
  cut_here : (clouds : List ℕ) (v : Vault) (moments : List Moment) (last : ℕ → Peer) → moments ≡ [] → last ≡ v.peers → FinishCut s job clouds v moments last
  cut_here [] v moments last none same = (none, same)
  cut_here (cloud ∷ clouds) v moments last none same = ([], starting (lane_at (lanes_of v.jobs job) cloud), [], v.peers, refl, inl ((refl, refl), none, same))

  cut_longer : (cloud : ℕ) (clouds : List ℕ) (v : Vault) (moments : List Moment) (last : ℕ → Peer) → FinishCut s job (cloud ∷ []) v moments last → FinishCut s job (cloud ∷ clouds) v moments last
  cut_longer cloud clouds v moments last f = (f.0, f.1, f.2, f.3, f.4, by_where f.5)
    where
      by_where : ((LaneAlong (HasVaultExecuted s cloud) (starting (lane_at (lanes_of v.jobs job) cloud)) v.peers f.0 f.1 f.3) × (moments ≡ map (moment_of cloud) f.0) × (last ≡ f.3))
          ⊎ ((LaneRun (HasVaultExecuted s cloud) (starting (lane_at (lanes_of v.jobs job) cloud)) v.peers f.0 f.1 f.3) × ((rest : List Moment) × (moments ≡ map (moment_of cloud) f.0 ++ rest)
          × FinishCut s job [] (record { peers = f.3; jobs = with_lanes v.jobs job (with_state (lanes_of v.jobs job) cloud f.1.lane.state) }) rest last))
          → ((LaneAlong (HasVaultExecuted s cloud) (starting (lane_at (lanes_of v.jobs job) cloud)) v.peers f.0 f.1 f.3) × (moments ≡ map (moment_of cloud) f.0) × (last ≡ f.3))
          ⊎ ((LaneRun (HasVaultExecuted s cloud) (starting (lane_at (lanes_of v.jobs job) cloud)) v.peers f.0 f.1 f.3) × ((rest : List Moment) × (moments ≡ map (moment_of cloud) f.0 ++ rest)
          × FinishCut s job clouds (record { peers = f.3; jobs = with_lanes v.jobs job (with_state (lanes_of v.jobs job) cloud f.1.lane.state) }) rest last))
      by_where (inl x) = inl x
      by_where (inr x) = inr (x.0, (x.1.0, x.1.1, cut_here clouds (record { peers = f.3; jobs = with_lanes v.jobs job (with_state (lanes_of v.jobs job) cloud f.1.lane.state) }) x.1.0 last x.1.2.0 x.1.2.1))

  -- some lanes that came to their ends, and a cut among those behind
  cut_join : (xs ys : List ℕ) (old mid : Vault) (answers : List Line) (before behind : List Moment) (last : ℕ → Peer) → FinishLanes s job xs old answers before mid → FinishCut s job ys mid behind last
      → FinishCut s job (xs ++ ys) old (before ++ behind) last
  cut_join [] ys old mid answers before behind last f g =
      subst (λ (l : List Moment). FinishCut s job ys old (l ++ behind) last) (sym f.1) (subst (λ (v : Vault). FinishCut s job ys v behind last) f.2 g)
  cut_join (cloud ∷ xs) ys old mid answers before behind last f g = (
    f.0,
    f.1,
    f.2,
    f.3.peers,
    f.8,
    inr (
      f.7,
      (
        f.6 ++ behind,
        ap (λ (l : List Moment). l ++ behind) f.12 ∙ append_assoc (map (moment_of cloud) f.0) f.6 behind,
        subst (λ (v : Vault). FinishCut s job (xs ++ ys) v (f.6 ++ behind) last) same_vault (cut_join xs ys f.3 mid f.5 f.6 behind last f.13 g),
      ),
    ),
  )
    where
      same_vault : f.3 ≡ record { peers = f.3.peers; jobs = with_lanes old.jobs job (with_state (lanes_of old.jobs job) cloud f.1.lane.state) }
      same_vault = ap (λ (l : List JobState). let v : Vault = record { peers = f.3.peers; jobs = l } in v) (f.10 ∙ ap (with_lanes old.jobs job) f.9)

-- ---- lanes over the link

module _ {V : Type 0} (clouds : V → ℕ → Cloud) (s : Setting) (job : ℕ) where
  -- what a cloud had by the first of two runs it also had where the second was made
  pub images_later : (old mid new : LocalLink V) (before behind : List Moment) (between last : ℕ → Peer) → First between behind last → Images clouds s old mid before between → Images clouds s mid new behind last
      → Images clouds s old new (before ++ behind) last
  images_later old mid new before behind between last first one two cloud lt told =
      joined (clouds old.shelf.now cloud) (clouds mid.shelf.now cloud) (clouds new.shelf.now cloud) (StandsForSome (header_in s cloud) (IsListIn s cloud (before ++ behind) last))
      (images_weaker clouds s old mid cloud (IsListIn s cloud before between) (IsListIn s cloud (before ++ behind) last) (λ list has. early cloud list has) (one cloud lt told))
      (images_weaker clouds s mid new cloud (IsListIn s cloud behind last) (IsListIn s cloud (before ++ behind) last) (λ list has. late cloud list has) (two cloud lt told))
    where
      by_first : First between behind last → (c : ℕ) (list : List Command) → MaySettleAs (between c) list → IsListIn s c (before ++ behind) last list
      by_first (inl x) c list settles = inl (subst (λ (f : ℕ → Peer). MaySettleAs (f c) list) (sym x.1) settles)
      by_first (inr x) c list settles = inr (x.0, Contains-append_right before behind x.0 (subst (λ (l : List Moment). Contains l x.0) (sym x.2) (contains_here x.0 x.1)), inl (subst (λ (f : ℕ → Peer). MaySettleAs (f c) list) (sym x.3) settles))

      early : (c : ℕ) (list : List Command) → IsListIn s c before between list → IsListIn s c (before ++ behind) last list
      early c list (inl settles) = by_first first c list settles
      early c list (inr x) = inr (x.0, Contains-append_left before behind x.0 x.1, x.2)

      late : (c : ℕ) (list : List Command) → IsListIn s c behind last list → IsListIn s c (before ++ behind) last list
      late c list (inl settles) = inl settles
      late c list (inr x) = inr (x.0, Contains-append_right before behind x.0 x.1, x.2)

  pub finished_none : (old : LocalLink V) (jobs : List (List LaneView)) (v : Vault) (before : List ℕ) → IsAtVault clouds s old jobs v → Finished clouds s job [] old old jobs v before before
  finished_none old jobs v before is = record {
    answers = [];
    moments = [];
    after = v;
    lanes_run = (refl, refl, refl);
    is_at = is;
    text_is = sym (append-nil before);
    images = images_still clouds s old old v.peers [] is.link_at refl;
  }

  pub finished_join : (xs ys : List ℕ) (old mid new : LocalLink V) (jobs more : List (List LaneView)) (v : Vault) (before between text : List ℕ) → (f : Finished clouds s job xs old mid jobs v before between)
      → Finished clouds s job ys mid new more f.after between text → Finished clouds s job (xs ++ ys) old new more v before text
  finished_join xs ys old mid new jobs more v before between text f g = record {
    answers = f.answers ++ g.answers;
    moments = f.moments ++ g.moments;
    after = g.after;
    lanes_run = lanes_join s job xs ys v f.after g.after f.answers g.answers f.moments g.moments f.lanes_run g.lanes_run;
    is_at = g.is_at;
    text_is = text_more before between text f.answers g.answers f.text_is g.text_is;
    images = images_later old mid new f.moments g.moments f.after.peers g.after.peers (first_lanes s job ys f.after g.answers g.moments g.after g.lanes_run) f.images g.images;
  }

  pub part_join : (xs ys : List ℕ) (old mid new : LocalLink V) (jobs : List (List LaneView)) (v : Vault) (before between : List ℕ) → (f : Finished clouds s job xs old mid jobs v before between)
      → FinishedPart clouds s job ys mid new f.after → FinishedPart clouds s job (xs ++ ys) old new v
  part_join xs ys old mid new jobs v before between f g = record {
    moments = f.moments ++ g.moments;
    last = g.last;
    cut = cut_join s job xs ys v f.after f.answers f.moments g.moments g.last f.lanes_run g.cut;
    left = g.left;
    images = images_later old mid new f.moments g.moments f.after.peers g.last (first_cut s job ys f.after g.moments g.last g.cut) f.images g.images;
  }

  pub part_longer : (cloud : ℕ) (ys : List ℕ) (old new : LocalLink V) (v : Vault) → FinishedPart clouds s job (cloud ∷ []) old new v → FinishedPart clouds s job (cloud ∷ ys) old new v
  part_longer cloud ys old new v g = record { moments = g.moments; last = g.last; cut = cut_longer s job cloud ys v g.moments g.last g.cut; left = g.left; images = g.images }

  -- all of them came to their ends
  pub part_done : (xs : List ℕ) (old new : LocalLink V) (jobs : List (List LaneView)) (v : Vault) (before text : List ℕ) → Finished clouds s job xs old new jobs v before text → FinishedPart clouds s job xs old new v
  part_done xs old new jobs v before text f = record {
    moments = f.moments;
    last = f.after.peers;
    cut = subst (λ (l : List ℕ). FinishCut s job l v f.moments f.after.peers) (append-nil xs)
        (subst (λ (l : List Moment). FinishCut s job (xs ++ []) v l f.after.peers) (append-nil f.moments)
        (cut_join s job xs [] v f.after f.answers f.moments [] f.after.peers f.lanes_run (refl, refl)));
    left = left_at clouds s new f.after.peers f.is_at.link_at;
    images = f.images;
  }

-- ---- what stays over a lane

module _ {V : Type 0} (clouds : V → ℕ → Cloud) (talk : LocalLink V → ℕ → Talk → Type 0) (cloud : ℕ) where
  pub one_leaves : (views after : List LaneView) (old new : LocalLink V) (came : Result (Unit {0}) StepErr) (before now : List LaneNews) → Finishes (telling clouds) talk cloud old views before came new after now
      → KeepsOtherClouds clouds old new × (new.shelf.ghost_name ≡ old.shelf.ghost_name)
  one_leaves views after old new (Ok u) before now f =
      along_leaves clouds talk cloud (starting (lane_at views cloud)) old f.0 f.1 new (run_along (Heard (telling clouds) talk cloud) (starting (lane_at views cloud)) old f.0 f.1 new f.3).0
  one_leaves views after old new (Err e) before now f =
      let one = along_leaves clouds talk cloud (starting (lane_at views cloud)) old f.0 f.1 f.3 f.4 in
      let two = step_leaves clouds talk cloud (request_of f.1.lane) (with_state views cloud f.1.lane.state) after f.3 new (Err e) f.8 in
      (leaves_join clouds old f.3 new one.0 two.0, two.1 ∙ one.1)

-- ---- one lane

lane_with : (views : List LaneView) (cloud : ℕ) (state : LaneState) → cloud < length views → (lane_at (with_state views cloud state) cloud).state ≡ state
lane_with [] cloud state lt = absurd (let l : cloud < 0 = lt in omega arith)
lane_with (lane ∷ views) zero state lt = refl
lane_with (lane ∷ views) (suc cloud) state lt = lane_with views cloud state (omega arith)

tell_more : {S : Type 0} (Does : S → Request → Reply → S → Type 0) (p : Progress) (old : S) (turns : List (LaneTurn S)) (at : Progress) (mid : S) (told : List LaneNews) (t : LaneTurn S) (next : LaneNews)
    → LaneAlong Does p old turns at mid → Tell p.lane turns told → news_of at.lane.state t.reply ≡ Some next → Tell p.lane (turns ++ t ∷ []) (told ++ next ∷ [])
tell_more Does p old [] at mid told t next along tell news =
    (next, [], subst (λ (o : Progress). news_of o.lane.state t.reply ≡ Some next) along.0 news, refl, ap (λ (l : List LaneNews). l ++ next ∷ []) tell)
tell_more Does p old (here ∷ turns) at mid told t next along tell news =
    (tell.0, tell.1 ++ next ∷ [], tell.2, tell_more Does (progress_after p here.reply) along.3.0 turns at mid tell.1 t next along.3.2 tell.3 news, ap (λ (l : List LaneNews). l ++ next ∷ []) tell.4)

module _ {V : Type 0} (clouds : V → ℕ → Cloud) (talk : LocalLink V → ℕ → Talk → Type 0) (s : Setting) (job cloud : ℕ) where
  pub one_finished : (old new : LocalLink V) (jobs : List (List LaneView)) (v : Vault) (came : Result (Unit {0}) StepErr) (after : List LaneView) (now : List LaneNews) (stored : Bool) (before text : List ℕ) → IsAtVault clouds s old jobs v → cloud < s.shape.n
      → Finishes (telling clouds) talk cloud old (lanes_of v.jobs job) [] came new after now → IsNothingLost came → IsBrought came → stored ≡ (not (all_done (lanes_of v.jobs job)) && all_done after)
      → text ≡ before ++ text_of (lane_lines job cloud came now stored) → Finished clouds s job (cloud ∷ []) old new (with_job jobs job after) v before text
  one_finished old new jobs v (Ok u) after now stored before text is lt f found brought e said =
      let views = lanes_of v.jobs job in
      let run = run_along (Heard (telling clouds) talk cloud) (starting (lane_at views cloud)) old f.0 f.1 new f.3 in
      let w = walk clouds talk s cloud (starting (lane_at views cloud)) old f.0 f.1 new v.peers is.link_at lt run.0 in
      let lines_of = map (step_line job cloud) f.2 ++ stored_line job views after in
      let same : map (step_line job cloud) now ++ stored_if job stored ≡ lines_of = ap (λ (l : List LaneNews). map (step_line job cloud) l ++ stored_if job stored) f.5 ∙ ap (λ (l : List Line). map (step_line job cloud) f.2 ++ l) (sym (stored_same job views after stored e)) in
      record {
        answers = lines_of;
        moments = map (moment_of cloud) w.walked;
        after = record { peers = w.mid; jobs = with_lanes v.jobs job after };
        lanes_run = (
          w.walked,
          f.1,
          f.2,
          record { peers = w.mid; jobs = with_lanes v.jobs job after },
          after,
          [],
          [],
          along_run (HasVaultExecuted s cloud) (starting (lane_at views cloud)) v.peers w.walked f.1 w.mid w.along run.1,
          w.tells (lane_at views cloud) f.2 f.4,
          f.6,
          refl,
          sym (append-nil lines_of),
          sym (append-nil (map (moment_of cloud) w.walked)),
          (refl, refl, refl),
        );
        is_at = record { link_at = w.link_at; jobs_are = jobs_with v.jobs jobs job after is.jobs_are };
        text_is = said ∙ ap (λ (l : List Line). before ++ text_of l) same;
        images = w.images;
      }
  one_finished old new jobs v (Err step_errors.NoMemory) after now stored before text is lt f found brought e said = absurd brought
  one_finished old new jobs v (Err step_errors.Lost) after now stored before text is lt f found brought e said = absurd found
  one_finished old new jobs v (Err (step_errors.Strange kind)) after now stored before text is lt f found brought e said =
      let views = lanes_of v.jobs job in
      let w = walk clouds talk s cloud (starting (lane_at views cloud)) old f.0 f.1 f.3 v.peers is.link_at lt f.4 in
      absurd (strange (request_of f.1.lane) (with_state views cloud f.1.lane.state) f.3 w.mid w.link_at f.8)
    where
      strange : (asks : Option Request) (views : List LaneView) (mid : LocalLink V) (peers : ℕ → Peer) → LinkAt clouds s mid peers → LaneSteps (telling clouds) talk cloud mid views asks (Err (step_errors.Strange kind)) new after → ⊥
      strange None views mid peers link steps = steps
      strange (Some r) views mid peers link steps = steps.0.unheard (peers cloud) (link.stands cloud lt)

  -- want of memory cut it, here or behind it
  pub one_cut : (old new : LocalLink V) (jobs : List (List LaneView)) (v : Vault) (came : Result (Unit {0}) StepErr) (after : List LaneView) (now : List LaneNews) → IsAtVault clouds s old jobs v → cloud < s.shape.n → cloud < length (lanes_of v.jobs job)
      → Finishes (telling clouds) talk cloud old (lanes_of v.jobs job) [] came new after now → IsNothingLost came → FinishedPart clouds s job (cloud ∷ []) old new v
  one_cut old new jobs v (Ok u) after now is lt has f found =
      let stored = not (all_done (lanes_of v.jobs job)) && all_done after in
      let text = text_of (lane_lines job cloud (Ok u) now stored) in
      part_done clouds s job (cloud ∷ []) old new (with_job jobs job after) v [] text (one_finished old new jobs v (Ok u) after now stored [] text is lt f found tt refl refl)
  one_cut old new jobs v (Err step_errors.Lost) after now is lt has f found = absurd found
  one_cut old new jobs v (Err (step_errors.Strange kind)) after now is lt has f found =
      let views = lanes_of v.jobs job in
      let w = walk clouds talk s cloud (starting (lane_at views cloud)) old f.0 f.1 f.3 v.peers is.link_at lt f.4 in
      absurd (strange (request_of f.1.lane) (with_state views cloud f.1.lane.state) f.3 w.mid w.link_at f.8)
    where
      strange : (asks : Option Request) (views : List LaneView) (mid : LocalLink V) (peers : ℕ → Peer) → LinkAt clouds s mid peers → LaneSteps (telling clouds) talk cloud mid views asks (Err (step_errors.Strange kind)) new after → ⊥
      strange None views mid peers link steps = steps
      strange (Some r) views mid peers link steps = steps.0.unheard (peers cloud) (link.stands cloud lt)
  one_cut old new jobs v (Err step_errors.NoMemory) after now is lt has f found =
      let views = lanes_of v.jobs job in
      let w = walk clouds talk s cloud (starting (lane_at views cloud)) old f.0 f.1 f.3 v.peers is.link_at lt f.4 in
      by_asks (request_of f.1.lane) refl w f.8
    where
      Walk : Type 0
      Walk = Walked clouds talk s cloud (starting (lane_at (lanes_of v.jobs job) cloud)) old f.3 f.0 f.1 v.peers

      stands_still : (w : Walk) → new ≡ f.3 → FinishedPart clouds s job (cloud ∷ []) old new v
      stands_still w same = record {
        moments = map (moment_of cloud) w.walked;
        last = w.mid;
        cut = (w.walked, f.1, f.2, w.mid, w.tells (lane_at (lanes_of v.jobs job) cloud) f.2 f.5, inl (w.along, refl, refl));
        left = left_at clouds s new w.mid (subst (λ (l : LocalLink V). LinkAt clouds s l w.mid) (sym same) w.link_at);
        images = subst (λ (l : LocalLink V). Images clouds s old l (map (moment_of cloud) w.walked) w.mid) (sym same) w.images;
      }

      untaken : (r : Request) → request_of f.1.lane ≡ Some r → (w : Walk) → Untaken (telling clouds) talk cloud (lane_at (with_state (lanes_of v.jobs job) cloud f.1.lane.state) cloud) f.3 r new → FinishedPart clouds s job (cloud ∷ []) old new v
      untaken r asks w u =
          let views = lanes_of v.jobs job in
          let h = u.heard (w.mid cloud) (w.link_at.stands cloud lt) in
          let step = heard_step clouds talk s f.3 new w.mid cloud r h.0 w.link_at lt h.3 in
          let t : LaneTurn (ℕ → Peer) = record { before = w.mid; request = r; reply = h.0 } in
          let last = put w.mid cloud step.left in
          let news = subst (λ (x : LaneState). news_of x h.0 ≡ Some h.1) (lane_with views cloud f.1.lane.state has) h.2 in
          record {
            moments = map (moment_of cloud) w.walked ++ moment_of cloud t ∷ [];
            last = last;
            cut = (
              w.walked ++ t ∷ [],
              progress_after f.1 h.0,
              f.2 ++ h.1 ∷ [],
              last,
              tell_more (HasVaultExecuted s cloud) (starting (lane_at views cloud)) v.peers w.walked f.1 w.mid f.2 t h.1 w.along (w.tells (lane_at views cloud) f.2 f.5) news,
              inl (
                along_more (HasVaultExecuted s cloud) (starting (lane_at views cloud)) v.peers w.walked f.1 w.mid r h.0 last w.along f.7 asks step.exec,
                sym (map-append (moment_of cloud) w.walked (t ∷ [])),
                refl,
              ),
            );
            left = left_at clouds s new last step.link_at;
            images = images_later clouds s job old f.3 new (map (moment_of cloud) w.walked) (moment_of cloud t ∷ []) w.mid last (inr (moment_of cloud t, [], refl, refl)) w.images (step.images last);
          }

      by_asks : (asks : Option Request) → request_of f.1.lane ≡ asks → Walk → LaneSteps (telling clouds) talk cloud f.3 (with_state (lanes_of v.jobs job) cloud f.1.lane.state) asks (Err step_errors.NoMemory) new after → FinishedPart clouds s job (cloud ∷ []) old new v
      by_asks None asks w steps = stands_still w steps.0
      by_asks (Some r) asks w steps = by_taken steps.0
        where
          by_taken : (new ≡ f.3) ⊎ Untaken (telling clouds) talk cloud (lane_at (with_state (lanes_of v.jobs job) cloud f.1.lane.state) cloud) f.3 r new → FinishedPart clouds s job (cloud ∷ []) old new v
          by_taken (inl same) = stands_still w same
          by_taken (inr u) = untaken r asks w u

-- ---- a lane of a job by its number

module _ {V : Type 0} (clouds : V → ℕ → Cloud) (talk : LocalLink V → ℕ → Talk → Type 0) (s : Setting) (job cloud : ℕ) where
  pub lane_finished : (old new : LocalLink V) (jobs later : List (List LaneView)) (v : Vault) (came : Result (Unit {0}) StepErr) (after : List LaneView) (told : List LaneNews) (before now stored : Bool) (was text : List ℕ) → IsAtVault clouds s old jobs v → cloud < s.shape.n
      → IsJob (length jobs) job → later ≡ with_job jobs job after → Finishes (telling clouds) talk cloud old (job_lanes jobs job) [] came new after told → IsNothingLost came → IsBrought came
      → before ≡ all_done (job_lanes jobs job) → now ≡ all_done (job_lanes later job) → stored ≡ (not before && now) → text ≡ was ++ text_of (lane_lines job cloud came told stored)
      → Finished clouds s job (cloud ∷ []) old new later v was text
  lane_finished old new jobs later v came after told before now stored was text is lt number put f found brought seen is_now e said =
      subst (λ (l : List (List LaneView)). Finished clouds s job (cloud ∷ []) old new l v was text) (sym put)
      (one_finished clouds talk s job cloud old new jobs v came after told stored was text is lt
      (subst (λ (views : List LaneView). Finishes (telling clouds) talk cloud old views [] came new after told) (sym views) f) found brought
      (e ∙ ap (λ (b : Bool). not b && now) (seen ∙ ap all_done (sym views)) ∙ ap (λ (b : Bool). not (all_done (lanes_of v.jobs job)) && b) (is_now ∙ ap all_done (ap (λ (l : List (List LaneView)). job_lanes l job) put ∙ lanes_with s.shape jobs job number after))) said)
    where
      views : lanes_of v.jobs job ≡ job_lanes jobs job
      views = views_are v.jobs jobs job is.jobs_are

  pub lane_cut : (old new : LocalLink V) (jobs : List (List LaneView)) (v : Vault) (came : Result (Unit {0}) StepErr) (after : List LaneView) (told : List LaneNews) → IsAtVault clouds s old jobs v → cloud < s.shape.n
      → cloud < length (job_lanes jobs job) → Finishes (telling clouds) talk cloud old (job_lanes jobs job) [] came new after told → IsNothingLost came → FinishedPart clouds s job (cloud ∷ []) old new v
  lane_cut old new jobs v came after told is lt has f found =
      one_cut clouds talk s job cloud old new jobs v came after told is lt (subst (λ (views : List LaneView). cloud < length views) (sym views) has)
      (subst (λ (views : List LaneView). Finishes (telling clouds) talk cloud old views [] came new after told) (sym views) f) found
    where
      views : lanes_of v.jobs job ≡ job_lanes jobs job
      views = views_are v.jobs jobs job is.jobs_are

-- ---- the lanes in a row, and the line

pub range_split : (a m k : ℕ) → range_with_len a (m + suc k) ≡ range_with_len a m ++ (a + m) ∷ range_with_len (a + m + 1) k
range_split a zero k =
    let e : 0 + suc k ≡ suc k = omega arith in
    let f : a + 0 ≡ a = omega arith in
    subst (λ (n : ℕ). range_with_len a n ≡ (a + 0) ∷ range_with_len (a + 0 + 1) k) (sym e) (subst (λ (b : ℕ). a ∷ range_with_len (a + 1) k ≡ b ∷ range_with_len (b + 1) k) (sym f) refl)
range_split a (suc m) k =
    let e : suc m + suc k ≡ suc (m + suc k) = omega arith in
    let f : a + 1 + m ≡ a + suc m = omega arith in
    ap (range_with_len a) e ∙ ap (λ (l : List ℕ). a ∷ l) (range_split (a + 1) m k ∙ ap (λ (b : ℕ). range_with_len (a + 1) m ++ b ∷ range_with_len (b + 1) k) f)

pub range_more : (lane : ℕ) → range_with_len 0 lane ++ lane ∷ [] ≡ range_with_len 0 (lane + 1)
range_more lane =
    let e : 0 + lane ≡ lane = omega arith in
    sym (range_split 0 lane 0 ∙ ap (λ (b : ℕ). range_with_len 0 lane ++ b ∷ []) e)

pub range_at : (lane n : ℕ) → lane < n → (rest : List ℕ) × (range_with_len 0 lane ++ lane ∷ rest ≡ range_with_len 0 n)
range_at lane n lt =
    let k = n - (lane + 1) in
    let e : lane + suc k ≡ n = omega arith in
    let f : 0 + lane ≡ lane = omega arith in
    (range_with_len (lane + 1) k, sym (sym (ap (range_with_len 0) e) ∙ range_split 0 lane k ∙ ap (λ (b : ℕ). range_with_len 0 lane ++ b ∷ range_with_len (b + 1) k) f))

module _ {V : Type 0} (clouds : V → ℕ → Cloud) (s : Setting) (job : ℕ) where
  pub finish_goes : (old new : LocalLink V) (jobs : List (List LaneView)) (v : Vault) (before between text : List ℕ) (stored : Bool) → Finished clouds s job (range_with_len 0 s.shape.n) old new jobs v before between
      → stored ≡ all_done (job_lanes jobs job) → text ≡ between ++ text_of (lines.End job stored ∷ []) → DoesLine clouds s (events.Finish job) old new jobs v before text
  finish_goes old new jobs v before between text stored f e said =
      let views = views_are f.after.jobs jobs job f.is_at.jobs_are in (
        f.answers ++ lines.End job stored ∷ [],
        record {
          moments = f.moments;
          after = f.after;
          is_at = f.is_at;
          step = (f.answers, f.lanes_run, ap (λ (b : Bool). f.answers ++ lines.End job b ∷ []) (e ∙ ap all_done (sym views)));
          images = f.images;
        },
        text_more before between text f.answers (lines.End job stored ∷ []) f.text_is said,
      )

  pub finish_cut : (old new : LocalLink V) (v : Vault) → (g : FinishedPart clouds s job (range_with_len 0 s.shape.n) old new v) → IsPartOf s v (record { event = events.Finish job; moments = g.moments }) g.last
      → IsLineCut clouds s (events.Finish job) old new v
  finish_cut old new v g part = record { moments = g.moments; last = g.last; part = part; left = g.left; images = g.images }

-- A lane that goes on along the servers of this process, as one that goes on along a vault's clouds.
use Rattle.std.proofs.Common.{◌≡◌, ℕ, zero, suc, ◌-◌, ◌<◌, false, List, [], ◌∷◌, ◌++◌, map, Some, None, refl, sym, ap, ◌∙◌, subst, inl, inr, ◌⊎◌}
use Rattle.std.specs.Prelude.{IsTrue, slice_index_or, slice_set}
use Rattle.std.proofs.lemmas.List.{set-get_or}
use Rattle.std.proofs.lemmas.List.Elements.{Contains-append_left, Contains-append_right}
use Rattle.session_model.specs.CdEdges.Disk.{Cloud}
use Rattle.session_model.proofs.CdEdges.Moments.{joined}
use Rattle.session_model.proofs.Parts.{put}
use Rattle.session_model.specs.CloudAreas.Peers.{StandsForSome}
use Rattle.deletions.specs.Messages.request.Request.{Request}
use Rattle.deletions.specs.Messages.reply.Reply.{Reply}
use Rattle.session_model.specs.UserDedup.command.Command.{Command}
use Rattle.session_model.specs.UserDedup.Exec.{Peer}
use Rattle.session_model.specs.UserDedup.Link.{Talk}
use Rattle.session_model.specs.UploadJob.news.LaneNews.{LaneNews}
use Rattle.session_model.specs.UploadJob.Lanes.{LaneView}
use Rattle.session_jobs.specs.LaneSteps.Runs.{LaneTurn, Progress, moved, request_of, progress_after, LaneRun, LaneAlong, Tell}
use Rattle.session_jobs.specs.LaneSteps.Steps.{Heard}
use Rattle.session_model.specs.LocalLink.link.LocalLink.{LocalLink}
use Rattle.session_model.specs.LocalLink.Tells.{telling}
use Rattle.session_model.specs.Vault.{Setting, JobState, HasVaultExecuted, lanes_at, with_lanes_at, lanes_of, with_lanes}
use Rattle.session_model.specs.Steps.{Moment, moment_of}
use Rattle.session_model.specs.Run.{IsListIn}
use Rattle.script_lines.specs.At.{LinkAt, KeepsOtherClouds, header_in}
use Rattle.script_lines.specs.Does.{Images}
use Rattle.script_lines.specs.Jobs.{job_lanes, with_job}
use Rattle.script_lines.proofs.Going.{before_exec, moves, executes, images_weaker, images_executed, images_still, leaves_rest, leaves_all, leaves_join}

-- ---- jobs by their numbers

lanes_at_map : (js : List JobState) (place : ℕ) → lanes_at js place ≡ slice_index_or (map (λ (j : JobState). j.lanes) js) place []
lanes_at_map [] place = refl
lanes_at_map (j ∷ js) zero = refl
lanes_at_map (j ∷ js) (suc place) = lanes_at_map js place

with_lanes_map : (js : List JobState) (place : ℕ) (lanes : List LaneView) → map (λ (j : JobState). j.lanes) (with_lanes_at js place lanes) ≡ slice_set (map (λ (j : JobState). j.lanes) js) place lanes
with_lanes_map [] place lanes = refl
with_lanes_map (j ∷ js) zero lanes = refl
with_lanes_map (j ∷ js) (suc place) lanes = ap (λ (l : List (List LaneView)). j.lanes ∷ l) (with_lanes_map js place lanes)

pub views_are : (js : List JobState) (jobs : List (List LaneView)) (job : ℕ) → map (λ (j : JobState). j.lanes) js ≡ jobs → lanes_of js job ≡ job_lanes jobs job
views_are js jobs job e = lanes_at_map js (job - 1) ∙ ap (λ (l : List (List LaneView)). slice_index_or l (job - 1) []) e

pub jobs_with : (js : List JobState) (jobs : List (List LaneView)) (job : ℕ) (lanes : List LaneView) → map (λ (j : JobState). j.lanes) js ≡ jobs
    → map (λ (j : JobState). j.lanes) (with_lanes js job lanes) ≡ with_job jobs job lanes
jobs_with js jobs job lanes e = with_lanes_map js (job - 1) lanes ∙ ap (λ (l : List (List LaneView)). slice_set l (job - 1) lanes) e

pub same_job : (jobs : List (List LaneView)) (job : ℕ) (lanes : List LaneView) → lanes ≡ job_lanes jobs job → with_job jobs job lanes ≡ jobs
same_job jobs job lanes e = ap (with_job jobs job) e ∙ set-get_or jobs (job - 1) []

-- ---- runs

pub run_along : {S : Type 0} (Does : S → Request → Reply → S → Type 0) (p : Progress) (old : S) (turns : List (LaneTurn S)) (last : Progress) (new : S) → LaneRun Does p old turns last new
    → LaneAlong Does p old turns last new × (IsTrue last.stopped ⊎ (request_of last.lane ≡ None))
run_along Does p old [] last new run = ((run.1, run.2), subst (λ (q : Progress). IsTrue q.stopped ⊎ (request_of q.lane ≡ None)) (sym run.1) run.0)
run_along {S} Does p old (t ∷ turns) last new run =
    let r = run_along Does (progress_after p t.reply) run.3.0 turns last new run.3.2 in
    ((run.0, run.1, run.2, (run.3.0, run.3.1, r.0)), r.1)

pub along_run : {S : Type 0} (Does : S → Request → Reply → S → Type 0) (p : Progress) (old : S) (turns : List (LaneTurn S)) (last : Progress) (new : S) → LaneAlong Does p old turns last new
    → IsTrue last.stopped ⊎ (request_of last.lane ≡ None) → LaneRun Does p old turns last new
along_run Does p old [] last new along ends = (subst (λ (q : Progress). IsTrue q.stopped ⊎ (request_of q.lane ≡ None)) along.0 ends, along.0, along.1)
along_run {S} Does p old (t ∷ turns) last new along ends =
    (along.0, along.1, along.2, (along.3.0, along.3.1, along_run Does (progress_after p t.reply) along.3.0 turns last new along.3.2 ends))

-- one turn more
pub along_more : {S : Type 0} (Does : S → Request → Reply → S → Type 0) (p : Progress) (old : S) (turns : List (LaneTurn S)) (at : Progress) (mid : S) (request : Request) (reply : Reply) (new : S)
    → LaneAlong Does p old turns at mid → at.stopped ≡ false → request_of at.lane ≡ Some request → Does mid request reply new
    → LaneAlong Does p old (turns ++ record { before = mid; request = request; reply = reply } ∷ []) (progress_after at reply) new
along_more {S} Does p old [] at mid request reply new along goes asks does =
    subst (λ (o : Progress). LaneAlong Does o old (record { before = mid; request = request; reply = reply } ∷ []) (progress_after at reply) new) along.0
    (goes, along.1, asks, (new, subst (λ (m : S). Does m request reply new) along.1 does, (refl, refl)))
along_more {S} Does p old (t ∷ turns) at mid request reply new along goes asks does =
    (along.0, along.1, along.2, (along.3.0, along.3.1, along_more Does (progress_after p t.reply) along.3.0 turns at mid request reply new along.3.2 goes asks does))

module _ {V : Type 0} (clouds : V → ℕ → Cloud) (talk : LocalLink V → ℕ → Talk → Type 0) where
  -- what else stays over a lane's way
  pub along_leaves : (cloud : ℕ) (p : Progress) (old : LocalLink V) (turns : List (LaneTurn (LocalLink V))) (last : Progress) (new : LocalLink V)
      → LaneAlong (Heard (telling clouds) talk cloud) p old turns last new → KeepsOtherClouds clouds old new × (new.shelf.ghost_name ≡ old.shelf.ghost_name)
  along_leaves cloud p old [] last new along = (leaves_all clouds old new along.1, ap (λ (l : LocalLink V). l.shelf.ghost_name) along.1)
  along_leaves cloud p old (t ∷ turns) last new along =
      let passes = along.3.1.passed.passes in
      let rest = along_leaves cloud (progress_after p t.reply) along.3.0 turns last new along.3.2 in
      (leaves_join clouds old along.3.0 new (leaves_rest clouds old along.3.0 cloud passes.reached passes.rest) rest.0, rest.1 ∙ passes.same_reference)

module _ {V : Type 0} (clouds : V → ℕ → Cloud) (talk : LocalLink V → ℕ → Talk → Type 0) (s : Setting) where
  -- a cloud of the link executed a request
  pub record Stepped (old new : LocalLink V) (peers : ℕ → Peer) (cloud : ℕ) (request : Request) (reply : Reply) : Type 0 where
    pub left : Peer
    pub link_at : LinkAt clouds s new (put peers cloud left)
    pub exec : HasVaultExecuted s cloud peers request reply (put peers cloud left)
    pub images : (last : ℕ → Peer) → Images clouds s old new (before_exec peers cloud request reply ∷ []) last

  pub heard_step : (old new : LocalLink V) (peers : ℕ → Peer) (cloud : ℕ) (request : Request) (reply : Reply) → LinkAt clouds s old peers → cloud < s.shape.n
      → Heard (telling clouds) talk cloud old request reply new → Stepped old new peers cloud request reply
  heard_step old new peers cloud request reply is lt heard =
      let went = heard.goes (peers cloud) (is.stands cloud lt) in
      record {
        left = went.0;
        link_at = moves clouds s old new peers cloud went.0 is heard.passed.others heard.passed.passes.rest heard.passed.passes.rooms heard.passed.passes.fate went.1;
        exec = executes clouds s old peers cloud request reply went.0 is lt went.2;
        images = λ last. images_executed clouds s old new peers cloud request reply last is heard.passed.passes.rest
            (λ told. heard.passed.passes.images (peers cloud) request told (is.stands cloud lt) heard.passed.read);
      }

  pub images_join : (old mid new : LocalLink V) (first rest : List Moment) (last : ℕ → Peer) → Images clouds s old mid first last → Images clouds s mid new rest last → Images clouds s old new (first ++ rest) last
  images_join old mid new first rest last one two cloud lt told =
      joined (clouds old.shelf.now cloud) (clouds mid.shelf.now cloud) (clouds new.shelf.now cloud) (StandsForSome (header_in s cloud) (IsListIn s cloud (first ++ rest) last))
      (images_weaker clouds s old mid cloud (IsListIn s cloud first last) (IsListIn s cloud (first ++ rest) last) (λ list has. in_first cloud list has) (one cloud lt told))
      (images_weaker clouds s mid new cloud (IsListIn s cloud rest last) (IsListIn s cloud (first ++ rest) last) (λ list has. in_rest cloud list has) (two cloud lt told))
    where
      in_first : (cloud : ℕ) (list : List Command) → IsListIn s cloud first last list → IsListIn s cloud (first ++ rest) last list
      in_first cloud list (inl settles) = inl settles
      in_first cloud list (inr x) = inr (x.0, Contains-append_left first rest x.0 x.1, x.2)

      in_rest : (cloud : ℕ) (list : List Command) → IsListIn s cloud rest last list → IsListIn s cloud (first ++ rest) last list
      in_rest cloud list (inl settles) = inl settles
      in_rest cloud list (inr x) = inr (x.0, Contains-append_right first rest x.0 x.1, x.2)

  -- the lane went on so along the vault's clouds
  pub record Walked (cloud : ℕ) (p : Progress) (old new : LocalLink V) (turns : List (LaneTurn (LocalLink V))) (last : Progress) (peers : ℕ → Peer) : Type 0 where
    pub walked : List (LaneTurn (ℕ → Peer))
    pub mid : ℕ → Peer
    pub along : LaneAlong (HasVaultExecuted s cloud) p peers walked last mid
    pub tells : (lane : LaneView) (told : List LaneNews) → Tell lane turns told → Tell lane walked told
    pub link_at : LinkAt clouds s new mid
    pub images : Images clouds s old new (map (moment_of cloud) walked) mid

  pub walk : (cloud : ℕ) (p : Progress) (old : LocalLink V) (turns : List (LaneTurn (LocalLink V))) (last : Progress) (new : LocalLink V) (peers : ℕ → Peer) → LinkAt clouds s old peers → cloud < s.shape.n
      → LaneAlong (Heard (telling clouds) talk cloud) p old turns last new → Walked cloud p old new turns last peers
  walk cloud p old [] last new peers is lt along = record {
    walked = [];
    mid = peers;
    along = (along.0, refl);
    tells = λ lane told t. t;
    link_at = subst (λ (l : LocalLink V). LinkAt clouds s l peers) (sym along.1) is;
    images = images_still clouds s old new peers [] is along.1;
  }
  walk cloud p old (t ∷ turns) last new peers is lt along =
      let step = heard_step old along.3.0 peers cloud t.request t.reply is lt along.3.1 in
      let rest = walk cloud (progress_after p t.reply) along.3.0 turns last new (put peers cloud step.left) step.link_at lt along.3.2 in
      let here : LaneTurn (ℕ → Peer) = record { before = peers; request = t.request; reply = t.reply } in
      record {
        walked = here ∷ rest.walked;
        mid = rest.mid;
        along = (along.0, refl, along.2, (put peers cloud step.left, step.exec, rest.along));
        tells = λ lane told x. (x.0, x.1, x.2, rest.tells (moved lane t.reply) x.1 x.3, x.4);
        link_at = rest.link_at;
        images = images_join old along.3.0 new (moment_of cloud here ∷ []) (map (moment_of cloud) rest.walked) rest.mid (step.images rest.mid) rest.images;
      }

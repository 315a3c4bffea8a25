-- Steps, drops and finishes of a session, as one user's own session has them.
use Rattle.std.proofs.Common.{◌≡◌, ◌≢◌, ℕ, zero, suc, ◌-◌, ◌<◌, Bool, true, false, cond, List, [], ◌∷◌, ◌++◌, length, map, Option, Some, None, refl, sym, ap, ◌∙◌, subst, inl, inr, ◌⊎◌, arith, eq-eqb}
use Rattle.std.specs.Prelude.{◌&&◌, not, slice_get}
use Rattle.std.specs.List.{Contains}
use Rattle.std.proofs.lemmas.Bool.{eqb-true}
use Rattle.std.proofs.lemmas.List.{map-append}
use Rattle.std.proofs.lemmas.List.Elements.{Contains-append_left, Contains-append_right}
use Rattle.recipe.specs.CdBase.ids.UserId.{UserId}
use Rattle.session_model.specs.CdEdges.Disk.{Cloud}
use Rattle.session_model.specs.Messages.request.Request.{Request}
use Rattle.session_model.specs.UserDedup.Requests.{asker}
use Rattle.session_model.specs.UserDedup.Exec.{Peer}
use Rattle.session_model.proofs.UserDedup.Owned.{contains_here, contains_later}
use Rattle.session_model.specs.UploadJob.news.LaneNews.{LaneNews}
use Rattle.session_model.specs.UploadJob.Upload.{FileVersion, Work}
use Rattle.session_model.specs.UploadJob.Lane.{news_of}
use Rattle.session_model.specs.UploadJob.Lanes.{LaneView, with_state}
use Rattle.session_model.specs.UploadJob.Lanes as lanes
use Rattle.session_model.specs.LaneSteps.Runs.{LaneTurn, Progress, LaneRun, Tell, starting, lane_at, moved, request_of}
use Rattle.session_model.specs.Transcript.line.Line.{Line}
use Rattle.session_model.specs.Transcript.line.Line.TheVariants as lines
use Rattle.session_model.specs.Vault.{Setting, JobState, Vault, HasVaultExecuted, lanes_of, with_lanes}
use Rattle.session_model.specs.Steps.{Moment, executed, moment_of, LaneStep, DropStep, FinishLanes, stored_line, all_done, step_line}
use Rattle.two_worlds.specs.Worlds.{is_own_place, is_own_job, own_job, own_line}
use Rattle.session_model.proofs.Jobs.{Brings, versions, job_of, work_at, asks_at, lane_moved}
use Rattle.two_worlds.proofs.Numbers.{own_jobs, own_lanes, own_with, other_with}
use Rattle.two_worlds.proofs.Own.{own_peers, own_vault, own_moment, own_turn, Up, Still, still_first, still_last, up_join, up_same, run_up, Known, known_first, Premises, CalmPeers, calm_executes, other_executes, own_executes, calm_run, other_run, own_run, lane_asker, own_tell, own_moments}

module _ (u : UserId) where
  -- the lanes of the user's job, where these versions were uploaded
  pub own_lanes_by : (vs : List FileVersion) (jobs : List JobState) (job : ℕ) → versions jobs ≡ vs → is_own_job u vs job ≡ true
      → lanes_of (own_jobs u jobs) (own_job u vs job) ≡ lanes_of jobs job
  own_lanes_by vs jobs job those own =
      subst (λ (ws : List FileVersion). is_own_job u ws job ≡ true → lanes_of (own_jobs u jobs) (own_job u ws job) ≡ lanes_of jobs job) those (own_lanes u jobs job) own

  pub own_with_by : (vs : List FileVersion) (jobs : List JobState) (job : ℕ) (views : List LaneView) → versions jobs ≡ vs → is_own_job u vs job ≡ true
      → own_jobs u (with_lanes jobs job views) ≡ with_lanes (own_jobs u jobs) (own_job u vs job) views
  own_with_by vs jobs job views those own =
      subst (λ (ws : List FileVersion). is_own_job u ws job ≡ true → own_jobs u (with_lanes jobs job views) ≡ with_lanes (own_jobs u jobs) (own_job u ws job) views) those
      (own_with u jobs job views) own

  pub other_with_by : (vs : List FileVersion) (jobs : List JobState) (job : ℕ) (views : List LaneView) → versions jobs ≡ vs → is_own_job u vs job ≡ false
      → own_jobs u (with_lanes jobs job views) ≡ own_jobs u jobs
  other_with_by vs jobs job views those other =
      subst (λ (ws : List FileVersion). is_own_job u ws job ≡ false → own_jobs u (with_lanes jobs job views) ≡ own_jobs u jobs) those (other_with u jobs job views) other

  -- the version at a place of the user's, and at another's
  version_at : (vs : List FileVersion) (place : ℕ) → is_own_place u vs place ≡ true → (v : FileVersion) × (slice_get vs place ≡ Some v) × (v.user ≡ u)
  version_at [] place own = cc
  version_at (v ∷ vs) zero own = (v, refl, let e = eqb-true v.user.0 u.0 own in λ i. record { 0 = e i })
  version_at (v ∷ vs) (suc place) own = version_at vs place own

  other_at : (vs : List FileVersion) (place : ℕ) → place < length vs → is_own_place u vs place ≡ false → (v : FileVersion) × (slice_get vs place ≡ Some v) × (v.user.0 ≢ u.0)
  other_at [] place below other = absurd (omega (arith, below))
  other_at (v ∷ vs) zero below other = (v, refl, λ same. let t = eq-eqb v.user.0 u.0 same in let no : true ≡ false = sym t ∙ other in cc)
  other_at (v ∷ vs) (suc place) below other = other_at vs place (omega (arith, below)) other

  pub own_stored : (vs : List FileVersion) (job : ℕ) (old new : List LaneView) → map (own_line u vs) (stored_line job old new) ≡ stored_line (own_job u vs job) old new
  own_stored vs job old new = by_test (not (all_done old) && all_done new)
    where
      by_test : (b : Bool) → map (own_line u vs) (cond b (lines.JobStored job ∷ []) []) ≡ cond b (lines.JobStored (own_job u vs job) ∷ []) []
      by_test true = refl
      by_test false = refl

  pub own_told : (vs : List FileVersion) (job cloud : ℕ) (told : List LaneNews) → map (own_line u vs) (map (step_line job cloud) told) ≡ map (step_line (own_job u vs job) cloud) told
  own_told vs job cloud [] = refl
  own_told vs job cloud (t ∷ told) = ap (λ (l : List Line). step_line (own_job u vs job) cloud t ∷ l) (own_told vs job cloud told)

-- what a lane asks, by its place among the lanes
asks_back : (views : List LaneView) (c : ℕ) (request : Request) → request_of (lane_at views c) ≡ Some request → lanes.request_at views c ≡ Some request
asks_back [] c request e = absurd (let no : None ≡ Some request = e in cc)
asks_back (lane ∷ views) zero request e = e
asks_back (lane ∷ views) (suc c) request e = asks_back views c request e

module _ (s : Setting) (u : UserId) (k : ℕ → Cloud) (In : ℕ → List ℕ → Type 0) (prem : Premises s u k In) (vs : List FileVersion) where
  -- the user of a lane that asks
  lane_user : (jobs : List JobState) (job cloud : ℕ) (v : FileVersion) → Brings s.shape jobs vs → slice_get vs (job - 1) ≡ Some v → (request : Request)
      → lanes.request_at (lanes_of jobs job) cloud ≡ Some request → (lane_at (lanes_of jobs job) cloud).work.user ≡ v.user
  lane_user jobs job cloud v brings at request asks =
      ap (λ (w : Work). w.user)
      (work_at s.shape v 0 (lanes_of jobs job) cloud request
      (job_of s.shape jobs (job - 1) v brings.are (subst (λ (ws : List FileVersion). slice_get ws (job - 1) ≡ Some v) (sym brings.those) at)) asks)

  asks_from : (jobs : List JobState) (job cloud : ℕ) (v : FileVersion) → Brings s.shape jobs vs → slice_get vs (job - 1) ≡ Some v → (request : Request)
      → lanes.request_at (lanes_of jobs job) cloud ≡ Some request → asker request ≡ v.user
  asks_from jobs job cloud v brings at request asks =
      lane_asker (lane_at (lanes_of jobs job) cloud).work (lane_at (lanes_of jobs job) cloud).state request (asks_at (lanes_of jobs job) cloud request asks)
      ∙ lane_user jobs job cloud v brings at request asks

  -- ---- a step

  module _ (job cloud : ℕ) (below : cloud < s.shape.n) (old : Vault) (answers : List Line) (moments : List Moment) (new : Vault)
      (calm : CalmPeers s u k In old.peers) (still : Still s.shape.n old.peers new.peers) (brings : Brings s.shape old.jobs vs) where
    pub calm_lane : (request : Option Request) → LaneStep s job cloud request old answers moments new → CalmPeers s u k In new.peers
    calm_lane None x = subst (λ (v : Vault). CalmPeers s u k In v.peers) (sym x.2) calm
    calm_lane (Some request) x = calm_executes s u k In prem cloud below old.peers new.peers request x.0 calm still x.3

    pub calm_drop : (request : Option Request) → DropStep s job cloud request old answers moments new → CalmPeers s u k In new.peers
    calm_drop None x = subst (λ (v : Vault). CalmPeers s u k In v.peers) (sym x.2) calm
    calm_drop (Some request) x = calm_executes s u k In prem cloud below old.peers new.peers request x.0 calm still x.1

    pub own_lane : is_own_job u vs job ≡ true → Known In moments → (request : Option Request) → lanes.request_at (lanes_of old.jobs job) cloud ≡ request
        → LaneStep s job cloud request old answers moments new
        → LaneStep s (own_job u vs job) cloud request (own_vault u k old) (map (own_line u vs) answers) (map (own_moment u k) moments) (own_vault u k new)
    own_lane own known None asks x = (ap (map (own_line u vs)) x.0, ap (map (own_moment u k)) x.1, ap (own_vault u k) x.2)
    own_lane own known (Some request) asks x =
        let at = version_at u vs (job - 1) own in
        let same = asks_from old.jobs job cloud at.0 brings at.1 request asks ∙ at.2 in
        let e = own_lanes_by u vs old.jobs job brings.those own in
        let here = known_first In (executed old.peers cloud request x.0) [] (subst (Known In) x.4 known) in (
          x.0,
          x.1,
          x.2,
          own_executes s u k In prem cloud below old.peers new.peers request x.0 calm still x.3 same here,
          ap (map (own_moment u k)) x.4,
          subst (λ (views : List LaneView). news_of (lane_at views cloud).state x.0 ≡ Some x.1) (sym e) x.5,
          x.6 ∙ ap (λ (views : List LaneView). with_state views cloud (moved (lane_at views cloud) x.0).state) (sym e),
          ap (own_jobs u) x.7 ∙ own_with_by u vs old.jobs job x.2 brings.those own,
          ap (map (own_line u vs)) x.8
              ∙ ap (λ (l : List Line). step_line (own_job u vs job) cloud x.1 ∷ l) (own_stored u vs job (lanes_of old.jobs job) x.2)
              ∙ ap (λ (views : List LaneView). step_line (own_job u vs job) cloud x.1 ∷ stored_line (own_job u vs job) views x.2) (sym e),
        )

    pub own_drop : is_own_job u vs job ≡ true → Known In moments → (request : Option Request) → lanes.request_at (lanes_of old.jobs job) cloud ≡ request
        → DropStep s job cloud request old answers moments new
        → DropStep s (own_job u vs job) cloud request (own_vault u k old) (map (own_line u vs) answers) (map (own_moment u k) moments) (own_vault u k new)
    own_drop own known None asks x = (ap (map (own_line u vs)) x.0, ap (map (own_moment u k)) x.1, ap (own_vault u k) x.2)
    own_drop own known (Some request) asks x =
        let at = version_at u vs (job - 1) own in
        let same = asks_from old.jobs job cloud at.0 brings at.1 request asks ∙ at.2 in
        let here = known_first In (executed old.peers cloud request x.0) [] (subst (Known In) x.2 known) in (
          x.0,
          own_executes s u k In prem cloud below old.peers new.peers request x.0 calm still x.1 same here,
          ap (map (own_moment u k)) x.2,
          ap (own_jobs u) x.3,
          ap (map (own_line u vs)) x.4,
        )

    pub other_lane : is_own_job u vs job ≡ false → (job - 1) < length vs → (request : Option Request) → lanes.request_at (lanes_of old.jobs job) cloud ≡ request
        → LaneStep s job cloud request old answers moments new → own_vault u k new ≡ own_vault u k old
    other_lane other some None asks x = ap (own_vault u k) x.2
    other_lane other some (Some request) asks x =
        let at = other_at u vs (job - 1) some other in
        let same = asks_from old.jobs job cloud at.0 brings at.1 request asks in
        let peers = other_executes s u k In prem cloud below old.peers new.peers request x.0 calm still x.3 (λ e. at.2 (sym (ap (λ (w : UserId). w.0) same) ∙ e)) in
        let jobs = ap (own_jobs u) x.7 ∙ other_with_by u vs old.jobs job x.2 brings.those other in
        λ i. record { peers = peers i; jobs = jobs i }

    pub other_drop : is_own_job u vs job ≡ false → (job - 1) < length vs → (request : Option Request) → lanes.request_at (lanes_of old.jobs job) cloud ≡ request
        → DropStep s job cloud request old answers moments new → own_vault u k new ≡ own_vault u k old
    other_drop other some None asks x = ap (own_vault u k) x.2
    other_drop other some (Some request) asks x =
        let at = other_at u vs (job - 1) some other in
        let same = asks_from old.jobs job cloud at.0 brings at.1 request asks in
        let peers = other_executes s u k In prem cloud below old.peers new.peers request x.0 calm still x.1 (λ e. at.2 (sym (ap (λ (w : UserId). w.0) same) ∙ e)) in
        let jobs = ap (own_jobs u) x.3 in
        λ i. record { peers = peers i; jobs = jobs i }

  -- ---- a finish

  pub finish_up : (job : ℕ) (clouds : List ℕ) (old : Vault) (answers : List Line) (moments : List Moment) (new : Vault) → FinishLanes s job clouds old answers moments new → Up old.peers new.peers
  finish_up job [] old answers moments new f = up_same old.peers new.peers (ap (λ (v : Vault). v.peers) f.2)
  finish_up job (cloud ∷ clouds) old answers moments new f =
      up_join old.peers f.3.peers new.peers (run_up s cloud _ old.peers f.0 f.1 f.3.peers f.7) (finish_up job clouds f.3 f.5 f.6 new f.13)

  pub calm_finish : (job : ℕ) (clouds : List ℕ) → ((c : ℕ) → Contains clouds c → c < s.shape.n) → (old : Vault) (answers : List Line) (moments : List Moment) (new : Vault)
      → FinishLanes s job clouds old answers moments new → CalmPeers s u k In old.peers → Still s.shape.n old.peers new.peers → CalmPeers s u k In new.peers
  calm_finish job [] below old answers moments new f calm still = subst (λ (v : Vault). CalmPeers s u k In v.peers) (sym f.2) calm
  calm_finish job (cloud ∷ clouds) below old answers moments new f calm still =
      let one = run_up s cloud _ old.peers f.0 f.1 f.3.peers f.7 in
      let rest = finish_up job clouds f.3 f.5 f.6 new f.13 in
      calm_finish job clouds (λ c has. below c (contains_later cloud clouds c has)) f.3 f.5 f.6 new f.13
      (calm_run s u k In prem cloud (below cloud (contains_here cloud clouds)) _ old.peers f.0 f.1 f.3.peers f.7 calm (still_first s.shape.n old.peers f.3.peers new.peers rest still))
      (still_last s.shape.n old.peers f.3.peers new.peers one still)

  -- a lane's user, whether it asks or not
  run_user : (jobs : List JobState) (job cloud : ℕ) (v : FileVersion) → Brings s.shape jobs vs → slice_get vs (job - 1) ≡ Some v → (old : ℕ → Peer) (turns : List (LaneTurn (ℕ → Peer))) (last : Progress) (new : ℕ → Peer)
      → LaneRun (HasVaultExecuted s cloud) (starting (lane_at (lanes_of jobs job) cloud)) old turns last new
      → (turns ≡ []) ⊎ ((lane_at (lanes_of jobs job) cloud).work.user ≡ v.user)
  run_user jobs job cloud v brings at old [] last new run = inl refl
  run_user jobs job cloud v brings at old (t ∷ turns) last new run = inr (lane_user jobs job cloud v brings at t.request (asks_back (lanes_of jobs job) cloud t.request run.2))

  pub other_finish : (job : ℕ) → is_own_job u vs job ≡ false → (job - 1) < length vs → (clouds : List ℕ) → ((c : ℕ) → Contains clouds c → c < s.shape.n)
      → (old : Vault) (answers : List Line) (moments : List Moment) (new : Vault)
      → FinishLanes s job clouds old answers moments new → CalmPeers s u k In old.peers → Still s.shape.n old.peers new.peers → Brings s.shape old.jobs vs → own_vault u k new ≡ own_vault u k old
  other_finish job other some [] below old answers moments new f calm still brings = ap (own_vault u k) f.2
  other_finish job other some (cloud ∷ clouds) below old answers moments new f calm still brings =
      let here = below cloud (contains_here cloud clouds) in
      let one = run_up s cloud _ old.peers f.0 f.1 f.3.peers f.7 in
      let rest = finish_up job clouds f.3 f.5 f.6 new f.13 in
      let first = still_first s.shape.n old.peers f.3.peers new.peers rest still in
      let at = other_at u vs (job - 1) some other in
      let peers : own_peers u k f.3.peers ≡ own_peers u k old.peers = elim (run_user old.jobs job cloud at.0 brings at.1 old.peers f.0 f.1 f.3.peers f.7) [
        | inl none ↦ no_turns (starting (lane_at (lanes_of old.jobs job) cloud)) cloud old.peers f.0 f.1 f.3.peers none f.7
        | inr same ↦ other_run s u k In prem cloud here _ old.peers f.0 f.1 f.3.peers f.7 calm first (λ e. at.2 (sym (ap (λ (w : UserId). w.0) same) ∙ e))
      ] in
      let jobs = ap (own_jobs u) f.10 ∙ other_with_by u vs old.jobs job f.4 brings.those other in
      let both : own_vault u k f.3 ≡ own_vault u k old = λ i. record { peers = peers i; jobs = jobs i } in
      other_finish job other some clouds (λ c has. below c (contains_later cloud clouds c has)) f.3 f.5 f.6 new f.13
      (calm_run s u k In prem cloud here _ old.peers f.0 f.1 f.3.peers f.7 calm first)
      (still_last s.shape.n old.peers f.3.peers new.peers one still)
      (lane_moved s.shape old.jobs f.3.jobs job cloud f.1.lane.state f.4 vs f.9 f.10 brings)
      ∙ both
    where
      no_turns : (p : Progress) (cloud : ℕ) (old : ℕ → Peer) (turns : List (LaneTurn (ℕ → Peer))) (last : Progress) (new : ℕ → Peer) → turns ≡ [] → LaneRun (HasVaultExecuted s cloud) p old turns last new
          → own_peers u k new ≡ own_peers u k old
      no_turns p cloud old [] last new none run = ap (own_peers u k) run.2
      no_turns p cloud old (t ∷ turns) last new none run = absurd (let no : t ∷ turns ≡ [] = none in cc)

  pub own_finish : (job : ℕ) → is_own_job u vs job ≡ true → (clouds : List ℕ) → ((c : ℕ) → Contains clouds c → c < s.shape.n)
      → (old : Vault) (answers : List Line) (moments : List Moment) (new : Vault)
      → FinishLanes s job clouds old answers moments new → CalmPeers s u k In old.peers → Still s.shape.n old.peers new.peers → Brings s.shape old.jobs vs → Known In moments
      → FinishLanes s (own_job u vs job) clouds (own_vault u k old) (map (own_line u vs) answers) (map (own_moment u k) moments) (own_vault u k new)
  own_finish job own [] below old answers moments new f calm still brings known = (ap (map (own_line u vs)) f.0, ap (map (own_moment u k)) f.1, ap (own_vault u k) f.2)
  own_finish job own (cloud ∷ clouds) below old answers moments new f calm still brings known =
      let here = below cloud (contains_here cloud clouds) in
      let one = run_up s cloud _ old.peers f.0 f.1 f.3.peers f.7 in
      let rest = finish_up job clouds f.3 f.5 f.6 new f.13 in
      let first = still_first s.shape.n old.peers f.3.peers new.peers rest still in
      let at = version_at u vs (job - 1) own in
      let e = own_lanes_by u vs old.jobs job brings.those own in
      let both = subst (Known In) f.12 known in
      let known_one : Known In (map (moment_of cloud) f.0) = (λ m has. both m (Contains-append_left (map (moment_of cloud) f.0) f.6 m has)) in
      let known_rest : Known In f.6 = (λ m has. both m (Contains-append_right (map (moment_of cloud) f.0) f.6 m has)) in
      let run = by_user (starting (lane_at (lanes_of old.jobs job) cloud)) cloud here old.peers f.0 f.1 f.3.peers f.7 calm first known_one
      (elim (run_user old.jobs job cloud at.0 brings at.1 old.peers f.0 f.1 f.3.peers f.7) [ inl none ↦ inl none | inr same ↦ inr (same ∙ at.2) ]) in
      let number = own_job u vs job in (
        map (own_turn u k) f.0,
        f.1,
        f.2,
        own_vault u k f.3,
        f.4,
        map (own_line u vs) f.5,
        map (own_moment u k) f.6,
        subst (λ (views : List LaneView). LaneRun (HasVaultExecuted s cloud) (starting (lane_at views cloud)) (own_peers u k old.peers) (map (own_turn u k) f.0) f.1 (own_peers u k f.3.peers)) (sym e) run,
        subst (λ (views : List LaneView). Tell (lane_at views cloud) (map (own_turn u k) f.0) f.2) (sym e) (own_tell u k (lane_at (lanes_of old.jobs job) cloud) f.0 f.2 f.8),
        f.9 ∙ ap (λ (views : List LaneView). with_state views cloud f.1.lane.state) (sym e),
        ap (own_jobs u) f.10 ∙ own_with_by u vs old.jobs job f.4 brings.those own,
        ap (map (own_line u vs)) f.11
            ∙ map-append (own_line u vs) (map (step_line job cloud) f.2 ++ stored_line job (lanes_of old.jobs job) f.4) f.5
            ∙ ap (λ (l : List Line). l ++ map (own_line u vs) f.5)
            (map-append (own_line u vs) (map (step_line job cloud) f.2) (stored_line job (lanes_of old.jobs job) f.4)
            ∙ ap (λ (l : List Line). l ++ map (own_line u vs) (stored_line job (lanes_of old.jobs job) f.4)) (own_told u vs job cloud f.2)
            ∙ ap (λ (l : List Line). map (step_line number cloud) f.2 ++ l)
            (own_stored u vs job (lanes_of old.jobs job) f.4 ∙ ap (λ (views : List LaneView). stored_line number views f.4) (sym e))),
        ap (map (own_moment u k)) f.12
            ∙ map-append (own_moment u k) (map (moment_of cloud) f.0) f.6
            ∙ ap (λ (l : List Moment). l ++ map (own_moment u k) f.6) (own_moments u k cloud f.0),
        own_finish job own clouds (λ c has. below c (contains_later cloud clouds c has)) f.3 f.5 f.6 new f.13
            (calm_run s u k In prem cloud here _ old.peers f.0 f.1 f.3.peers f.7 calm first)
            (still_last s.shape.n old.peers f.3.peers new.peers one still)
            (lane_moved s.shape old.jobs f.3.jobs job cloud f.1.lane.state f.4 vs f.9 f.10 brings) known_rest,
      )
    where
      by_user : (p : Progress) (cloud : ℕ) → cloud < s.shape.n → (old : ℕ → Peer) (turns : List (LaneTurn (ℕ → Peer))) (last : Progress) (new : ℕ → Peer) → LaneRun (HasVaultExecuted s cloud) p old turns last new
          → CalmPeers s u k In old → Still s.shape.n old new → Known In (map (moment_of cloud) turns) → (turns ≡ []) ⊎ (p.lane.work.user ≡ u)
          → LaneRun (HasVaultExecuted s cloud) p (own_peers u k old) (map (own_turn u k) turns) last (own_peers u k new)
      by_user p cloud here old turns last new run calm still known (inr same) = own_run s u k In prem cloud here p old turns last new run calm still same known
      by_user p cloud here old [] last new run calm still known (inl none) = (run.0, run.1, ap (own_peers u k) run.2)
      by_user p cloud here old (t ∷ turns) last new run calm still known (inl none) = absurd (let no : t ∷ turns ≡ [] = none in cc)

-- What each line keeps of a cloud, by what its requests, openings and replacements keep.
use Rattle.std.proofs.Common.{◌≡◌, ℕ, ◌-◌, List, [], ◌∷◌, ◌++◌, length, map, Option, Some, None, Result, sym, ap, ◌∙◌, subst, inl, inr}
use Rattle.std.specs.Prelude.{slice_get, MatchOption}
use Rattle.std.specs.List.{Contains}
use Rattle.std.proofs.lemmas.Bool.{cases_eq}
use Rattle.std.proofs.lemmas.List.Elements.{Contains-append_cases, Contains-append_left, Contains-append_right}
use Rattle.session.specs.CdBase.ids.Tag.{Tag}
use Rattle.session.specs.CdBase.ids.UserId.{UserId}
use Rattle.session.specs.CdBase.ids.Version.{Version}
use Rattle.session.specs.CdEdges.Disk.{Cloud}
use Rattle.rebuild.specs.Messages.request.Request.{Request}
use Rattle.rebuild.specs.Messages.reply.Reply.{Reply}
use Rattle.subset_restore.specs.UserDedup.Exec.{Peer, Exec}
use Rattle.subset_restore.proofs.UserDedup.Owned.{contains_cases, contains_nothing, contains_here, contains_later}
use Rattle.local_link.specs.Calls.{Armed}
use Rattle.subset_restore.specs.RestoreJob.Asking.{MayRead}
use Rattle.rebuild.specs.UploadJob.Lanes as lanes
use Rattle.rebuild.specs.LaneSteps.Runs.{LaneTurn, Progress, LaneRun, progress_after}
use Rattle.session.specs.declared.event.Event.{Event}
use Rattle.session.specs.declared.event.Event.TheVariants as events
use Rattle.session.specs.Transcript.refusal.Refusal.{Refusal}
use Rattle.session.specs.Transcript.line.Line.{Line}
use Rattle.session_model.specs.Vault.{Setting, Vault, HasVaultExecuted, OneGoes, served_at, lanes_of, opening, with_peer, ExecutesAll}
use Rattle.session_model.specs.Steps.{Moment, Execution, cloud_no, moment_of, turn_moment, target_moments, LaneStep, DropStep, FinishLanes, ListRun, ReplaceStep, RestartStep, VStep}
use Rattle.session_model.specs.Run.{Answered, Turns, script_of}
use Rattle.session_model.specs.Headline.{Session, Begun, ComesTo, IsPartOf, IsRun, event_of, script_in}
use Rattle.session_model.proofs.With.{with_here, same_other}

-- this lasts over all that may become of the cloud, its armings where the event is allowed
pub record Lasting (s : Setting) (c : ℕ) (Keeps : Peer → Peer → Type 0) (Allowed : Event → Type 0) : Type 0 where
  pub same : (p q : Peer) → q ≡ p → Keeps p q
  pub on : (p m q : Peer) → Keeps p m → Keeps m q → Keeps p q
  pub executes : (p q : Peer) (request : Request) (reply : Reply) → Exec s.shape (s.told c) (served_at s c) p request reply q → Keeps p q
  pub reads : (p q : Peer) → MayRead p q → Keeps p q
  pub restarts : (line : Line) (p q : Peer) → RestartStep s c line p q → Keeps p q
  pub replaces : (line : Line) (p q : Peer) → ReplaceStep s c line p q → Keeps p q
  pub arms : (calls keep : ℕ) (p q : Peer) → Allowed (events.Arm (cloud_no c) calls keep) → Armed p q → Keeps p q

module _ (s : Setting) (c : ℕ) (Keeps : Peer → Peer → Type 0) (Allowed : Event → Type 0) (lasts : Lasting s c Keeps Allowed) where
  keeps_here : (old new : ℕ → Peer) → new ≡ old → Keeps (old c) (new c)
  keeps_here old new same = lasts.same (old c) (new c) (ap (λ (g : ℕ → Peer). g c) same)

  keeps_vault : (old new : Vault) → new ≡ old → Keeps (old.peers c) (new.peers c)
  keeps_vault old new same = lasts.same (old.peers c) (new.peers c) (ap (λ (v : Vault). v.peers c) same)

  keeps_one : (cloud : ℕ) (Goes : ℕ → Peer → Peer → Type 0) (old new : ℕ → Peer) → OneGoes cloud (Goes cloud) old new → ((p q : Peer) → cloud ≡ c → Goes c p q → Keeps p q) → Keeps (old c) (new c)
  keeps_one cloud Goes old new x there = elim (cases_eq c cloud) [
    | inl same ↦ there (old c) (new c) (sym same) (subst (λ (n : ℕ). Goes n (old n) (new n)) (sym same) x.goes)
    | inr ne ↦ lasts.same (old c) (new c) (x.others c ne)
  ]

  keeps_executes : (cloud : ℕ) (old new : ℕ → Peer) (request : Request) (reply : Reply) → HasVaultExecuted s cloud old request reply new → Keeps (old c) (new c)
  keeps_executes cloud old new request reply x = elim (cases_eq c cloud) [
    | inl same ↦ lasts.executes (old c) (new c) request reply (subst (λ (n : ℕ). Exec s.shape (s.told n) (served_at s n) (old n) request reply (new n)) (sym same) x.does)
    | inr ne ↦ lasts.same (old c) (new c) (x.others c ne)
  ]

  keeps_run : (cloud : ℕ) (p : Progress) (old : ℕ → Peer) (turns : List (LaneTurn (ℕ → Peer))) (last : Progress) (new : ℕ → Peer) → LaneRun (HasVaultExecuted s cloud) p old turns last new → Keeps (old c) (new c)
  keeps_run cloud p old [] last new run = keeps_here old new run.2
  keeps_run cloud p old (t ∷ turns) last new run =
      lasts.on (old c) (run.3.0 c) (new c) (keeps_executes cloud old run.3.0 t.request t.reply run.3.1)
      (keeps_run cloud (progress_after p t.reply) run.3.0 turns last new run.3.2)

  keeps_finish : (job : ℕ) (clouds : List ℕ) (old : Vault) (answers : List Line) (moments : List Moment) (new : Vault) → FinishLanes s job clouds old answers moments new → Keeps (old.peers c) (new.peers c)
  keeps_finish job [] old answers moments new x = keeps_vault old new x.2
  keeps_finish job (cloud ∷ clouds) old answers moments new x =
      lasts.on (old.peers c) (x.3.peers c) (new.peers c) (keeps_run cloud _ old.peers x.0 x.1 x.3.peers x.7) (keeps_finish job clouds x.3 x.5 x.6 new x.13)

  keeps_lane : (job cloud : ℕ) (request : Option Request) (old : Vault) (answers : List Line) (moments : List Moment) (new : Vault) → LaneStep s job cloud request old answers moments new → Keeps (old.peers c) (new.peers c)
  keeps_lane job cloud None old answers moments new x = keeps_vault old new x.2
  keeps_lane job cloud (Some request) old answers moments new x = keeps_executes cloud old.peers new.peers request x.0 x.3

  keeps_drop : (job cloud : ℕ) (request : Option Request) (old : Vault) (answers : List Line) (moments : List Moment) (new : Vault) → DropStep s job cloud request old answers moments new → Keeps (old.peers c) (new.peers c)
  keeps_drop job cloud None old answers moments new x = keeps_vault old new x.2
  keeps_drop job cloud (Some request) old answers moments new x = keeps_executes cloud old.peers new.peers request x.0 x.1

  keeps_list : (user : UserId) (cloud : ℕ) (above : Option (Tag × Version)) (old : ℕ → Peer) (turns : List (LaneTurn (ℕ → Peer))) (listed : Result (List (Tag × Version)) Refusal) (new : ℕ → Peer)
      → ListRun s user cloud above old turns listed new → Keeps (old c) (new c)
  keeps_list user cloud above old [] listed new run = absurd run
  keeps_list user cloud above old (t ∷ turns) listed new run =
      lasts.on (old c) (run.2.0 c) (new c) (keeps_executes cloud old run.2.0 t.request t.reply run.2.1) (elim run.2.2 [
        | inl x ↦ keeps_here run.2.0 new x.2
        | inr x ↦ keeps_list user cloud (slice_get x.0 (length x.0 - 1)) run.2.0 turns x.1 new x.5
      ])

  -- the target of a rebuild
  keeps_all : (p : Peer) (turns : List (LaneTurn Peer)) (end : Peer) → ExecutesAll s c p turns end → Keeps p end
  keeps_all p [] end x = lasts.same p end x
  keeps_all p (t ∷ turns) end x = lasts.on p x.1.0 end (lasts.executes p x.1.0 t.request t.reply x.1.1) (keeps_all x.1.0 turns end x.1.2)

  keeps_step : (old : Vault) (event : Event) (answers : List Line) (moments : List Moment) (new : Vault) → Allowed event → VStep s old event answers moments new → Keeps (old.peers c) (new.peers c)
  keeps_step old (events.Upload user path version bytes) answers moments new may x = keeps_here old.peers new.peers x.2
  keeps_step old (events.Step job lane) answers moments new may x = keeps_lane job lane.0 (lanes.request_at (lanes_of old.jobs job) lane.0) old answers moments new x
  keeps_step old (events.Lose job lane) answers moments new may x = keeps_vault old new x.2
  keeps_step old (events.Drop job lane) answers moments new may x = keeps_drop job lane.0 (lanes.request_at (lanes_of old.jobs job) lane.0) old answers moments new x
  keeps_step old (events.Finish job) answers moments new may x = keeps_finish job _ old x.0 moments new x.1
  keeps_step old (events.Get user path version clouds) answers moments new may x = lasts.reads (old.peers c) (new.peers c) (x.1.read.read c)
  keeps_step old (events.Arm cloud calls keep) answers moments new may x =
      keeps_one cloud.0 (λ (n : ℕ). Armed) old.peers new.peers x.0
      (λ p q same armed. lasts.arms calls keep p q (subst (λ (n : ℕ). Allowed (events.Arm (cloud_no n) calls keep)) same may) armed)
  keeps_step old (events.Restart cloud) answers moments new may x = keeps_one cloud.0 (λ (n : ℕ). RestartStep s n x.0) old.peers new.peers x.1 (λ p q same r. lasts.restarts x.0 p q r)
  keeps_step old (events.List user cloud) answers moments new may x = keeps_list user cloud.0 None old.peers x.0 x.1 new.peers x.2
  keeps_step old (events.Replace cloud) answers moments new may x = keeps_one cloud.0 (λ (n : ℕ). ReplaceStep s n x.0) old.peers new.peers x.1 (λ p q same r. lasts.replaces x.0 p q r)
  keeps_step old (events.Rebuild user target from) answers moments new may x = elim (cases_eq c target.0) [
    | inl same ↦ keeps_all (old.peers c) x.0.turns (new.peers c) (subst (λ (n : ℕ). ExecutesAll s n (old.peers n) x.0.turns (new.peers n)) (sym same) x.0.executes)
    | inr ne ↦ lasts.reads (old.peers c) (new.peers c) (x.0.leaves.read c ne)
  ]
  keeps_step old (events.Delete user path version cloud) answers moments new may x = keeps_executes cloud.0 old.peers new.peers _ x.0.0 x.0.2

  keeps_turns : (history : List Answered) (old new : Vault) → ((event : Event) → Contains (script_of history) event → Allowed event) → Turns s old history new → Keeps (old.peers c) (new.peers c)
  keeps_turns [] old new may turns = keeps_vault old new turns
  keeps_turns (a ∷ more) old new may turns =
      lasts.on (old.peers c) (a.after.peers c) (new.peers c)
      (keeps_step old a.event a.answers a.moments a.after (may a.event (contains_here a.event (script_of more))) turns.1)
      (keeps_turns more a.after new (λ event has. may event (contains_later a.event (script_of more) event has)) turns.2)

  -- ---- at each moment of a line

  keeps_alone : (old : ℕ → Peer) (event : Option Execution) (moments : List Moment) → moments ≡ record { peers = old; event = event } ∷ [] → (m : Moment) → Contains moments m → Keeps (old c) (m.peers c)
  keeps_alone old event moments e m has = elim (contains_cases (record { peers = old; event = event }) [] m (subst (λ (l : List Moment). Contains l m) e has)) [
    | inl same ↦ keeps_here old m.peers (ap (λ (n : Moment). n.peers) (sym same))
    | inr none ↦ absurd (contains_nothing m none)
  ]

  keeps_turn : (cloud : ℕ) (p : Progress) (old : ℕ → Peer) (turns : List (LaneTurn (ℕ → Peer))) (last : Progress) (new : ℕ → Peer) → LaneRun (HasVaultExecuted s cloud) p old turns last new
      → (m : Moment) → Contains (map (moment_of cloud) turns) m → Keeps (old c) (m.peers c)
  keeps_turn cloud p old [] last new run m has = absurd (contains_nothing m has)
  keeps_turn cloud p old (t ∷ turns) last new run m has = elim (contains_cases (moment_of cloud t) (map (moment_of cloud) turns) m has) [
    | inl same ↦ keeps_here old m.peers (ap (λ (n : Moment). n.peers) (sym same) ∙ run.1)
    | inr later ↦ lasts.on (old c) (run.3.0 c) (m.peers c) (keeps_executes cloud old run.3.0 t.request t.reply run.3.1)
        (keeps_turn cloud (progress_after p t.reply) run.3.0 turns last new run.3.2 m later)
  ]

  keeps_finish_at : (job : ℕ) (clouds : List ℕ) (old : Vault) (answers : List Line) (moments : List Moment) (new : Vault) → FinishLanes s job clouds old answers moments new
      → (m : Moment) → Contains moments m → Keeps (old.peers c) (m.peers c)
  keeps_finish_at job [] old answers moments new x m has = absurd (contains_nothing m (subst (λ (l : List Moment). Contains l m) x.1 has))
  keeps_finish_at job (cloud ∷ clouds) old answers moments new x m has = elim (Contains-append_cases (map (moment_of cloud) x.0) x.6 m (subst (λ (l : List Moment). Contains l m) x.12 has)) [
    | inl here ↦ keeps_turn cloud _ old.peers x.0 x.1 x.3.peers x.7 m here
    | inr later ↦ lasts.on (old.peers c) (x.3.peers c) (m.peers c) (keeps_run cloud _ old.peers x.0 x.1 x.3.peers x.7) (keeps_finish_at job clouds x.3 x.5 x.6 new x.13 m later)
  ]

  keeps_lane_at : (job cloud : ℕ) (request : Option Request) (old : Vault) (answers : List Line) (moments : List Moment) (new : Vault) → LaneStep s job cloud request old answers moments new
      → (m : Moment) → Contains moments m → Keeps (old.peers c) (m.peers c)
  keeps_lane_at job cloud None old answers moments new x = keeps_alone old.peers None moments x.1
  keeps_lane_at job cloud (Some request) old answers moments new x = keeps_alone old.peers _ moments x.4

  keeps_drop_at : (job cloud : ℕ) (request : Option Request) (old : Vault) (answers : List Line) (moments : List Moment) (new : Vault) → DropStep s job cloud request old answers moments new
      → (m : Moment) → Contains moments m → Keeps (old.peers c) (m.peers c)
  keeps_drop_at job cloud None old answers moments new x = keeps_alone old.peers None moments x.1
  keeps_drop_at job cloud (Some request) old answers moments new x = keeps_alone old.peers _ moments x.2

  keeps_list_at : (user : UserId) (cloud : ℕ) (above : Option (Tag × Version)) (old : ℕ → Peer) (turns : List (LaneTurn (ℕ → Peer))) (listed : Result (List (Tag × Version)) Refusal) (new : ℕ → Peer)
      → ListRun s user cloud above old turns listed new → (m : Moment) → Contains (map (moment_of cloud) turns) m → Keeps (old c) (m.peers c)
  keeps_list_at user cloud above old [] listed new run m has = absurd run
  keeps_list_at user cloud above old (t ∷ turns) listed new run m has = elim (contains_cases (moment_of cloud t) (map (moment_of cloud) turns) m has) [
    | inl same ↦ keeps_here old m.peers (ap (λ (n : Moment). n.peers) (sym same) ∙ run.0)
    | inr later ↦ lasts.on (old c) (run.2.0 c) (m.peers c) (keeps_executes cloud old run.2.0 t.request t.reply run.2.1) (elim run.2.2 [
      | inl x ↦ absurd (contains_nothing m (subst (λ (l : List (LaneTurn (ℕ → Peer))). Contains (map (moment_of cloud) l) m) x.1 later))
      | inr x ↦ keeps_list_at user cloud (slice_get x.0 (length x.0 - 1)) run.2.0 turns x.1 new x.5 m later
    ])
  ]

  keeps_target : (old : ℕ → Peer) (p : Peer) (turns : List (LaneTurn Peer)) (end : Peer) → ExecutesAll s c p turns end → (m : Moment) → Contains (target_moments old c turns end) m → Keeps p (m.peers c)
  keeps_target old p [] end x m has = elim (contains_cases (record { peers = with_peer old c end; event = None }) [] m has) [
    | inl same ↦ lasts.same p (m.peers c) (ap (λ (n : Moment). n.peers c) (sym same) ∙ with_here old c end ∙ x)
    | inr none ↦ absurd (contains_nothing m none)
  ]
  keeps_target old p (t ∷ turns) end x m has = elim (contains_cases (turn_moment old c t) (target_moments old c turns end) m has) [
    | inl same ↦ lasts.same p (m.peers c) (ap (λ (n : Moment). n.peers c) (sym same) ∙ with_here old c t.before ∙ x.0)
    | inr later ↦ lasts.on p x.1.0 (m.peers c) (lasts.executes p x.1.0 t.request t.reply x.1.1) (keeps_target old x.1.0 turns end x.1.2 m later)
  ]

  keeps_rebuild : (old : ℕ → Peer) (target : ℕ) (turns : List (LaneTurn Peer)) (new : ℕ → Peer) → ExecutesAll s target (old target) turns (new target)
      → (m : Moment) → Contains (target_moments old target turns (new target)) m → Keeps (old c) (m.peers c)
  keeps_rebuild old target turns new x m has = elim (cases_eq c target) [
    | inl same ↦ keeps_target old (old c) turns (new c) (subst (λ (n : ℕ). ExecutesAll s n (old n) turns (new n)) (sym same) x) m
        (subst (λ (n : ℕ). Contains (target_moments old n turns (new n)) m) (sym same) has)
    | inr ne ↦ lasts.same (old c) (m.peers c) (same_other c old target turns (new target) ne m has)
  ]

  keeps_at : (old : Vault) (event : Event) (answers : List Line) (moments : List Moment) (new : Vault) → VStep s old event answers moments new → (m : Moment) → Contains moments m → Keeps (old.peers c) (m.peers c)
  keeps_at old (events.Upload user path version bytes) answers moments new x = keeps_alone old.peers None moments x.1
  keeps_at old (events.Step job lane) answers moments new x = keeps_lane_at job lane.0 (lanes.request_at (lanes_of old.jobs job) lane.0) old answers moments new x
  keeps_at old (events.Lose job lane) answers moments new x = keeps_alone old.peers None moments x.1
  keeps_at old (events.Drop job lane) answers moments new x = keeps_drop_at job lane.0 (lanes.request_at (lanes_of old.jobs job) lane.0) old answers moments new x
  keeps_at old (events.Finish job) answers moments new x = keeps_finish_at job _ old x.0 moments new x.1
  keeps_at old (events.Get user path version clouds) answers moments new x = keeps_alone old.peers None moments x.3
  keeps_at old (events.Arm cloud calls keep) answers moments new x = keeps_alone old.peers None moments x.2
  keeps_at old (events.Restart cloud) answers moments new x = keeps_alone old.peers None moments x.3
  keeps_at old (events.List user cloud) answers moments new x = λ m has.
      keeps_list_at user cloud.0 None old.peers x.0 x.1 new.peers x.2 m (subst (λ (l : List Moment). Contains l m) x.4 has)
  keeps_at old (events.Replace cloud) answers moments new x = keeps_alone old.peers None moments x.3
  keeps_at old (events.Rebuild user target from) answers moments new x = λ m has.
      elim (contains_cases (record { peers = old.peers; event = None }) (target_moments old.peers target.0 x.0.turns (new.peers target.0)) m (subst (λ (l : List Moment). Contains l m) x.0.moments_are has)) [
        | inl same ↦ keeps_here old.peers m.peers (ap (λ (n : Moment). n.peers) (sym same))
        | inr later ↦ keeps_rebuild old.peers target.0 x.0.turns new.peers x.0.executes m later
      ]
  keeps_at old (events.Delete user path version cloud) answers moments new x = keeps_alone old.peers _ moments x.0.5

  -- a line that was begun
  keeps_last : (between : Vault) (begun : Option Begun) (last : ℕ → Peer) → ((event : Event) → Contains (event_of begun) event → Allowed event)
      → MatchOption begun (last ≡ between.peers) (λ b. IsPartOf s between b last) → Keeps (between.peers c) (last c)
  keeps_last between None last may x = keeps_here between.peers last x
  keeps_last between (Some b) last may x = by_rest x.1 x.3 x.4
    where
      by_rest : (rest : List Moment) → VStep s between b.event x.0 (b.moments ++ rest) x.2 → ComesTo rest x.2.peers last → Keeps (between.peers c) (last c)
      by_rest [] step comes =
          lasts.on (between.peers c) (x.2.peers c) (last c) (keeps_step between b.event x.0 (b.moments ++ []) x.2 (may b.event (contains_here b.event [])) step) (keeps_here x.2.peers last comes)
      by_rest (m ∷ rest) step comes =
          lasts.on (between.peers c) (m.peers c) (last c)
          (keeps_at between b.event x.0 (b.moments ++ m ∷ rest) x.2 step m (Contains-append_right b.moments (m ∷ rest) m (contains_here m rest))) (keeps_here m.peers last comes)

-- from a session's start to its last state
pub lasts_over : (run : Session) (c : ℕ) (Keeps : Peer → Peer → Type 0) (Allowed : Event → Type 0) → Lasting run.setting c Keeps Allowed → (clouds : ℕ → Cloud) → IsRun clouds run
    → ((event : Event) → Contains (script_in run) event → Allowed event) → Keeps ((opening clouds).peers c) (run.last c)
lasts_over run c Keeps Allowed lasts clouds is may =
    lasts.on ((opening clouds).peers c) (run.between.peers c) (run.last c)
    (keeps_turns run.setting c Keeps Allowed lasts run.history (opening clouds) run.between
    (λ event has. may event (Contains-append_left (script_of run.history) (event_of run.begun) event has)) is.answered)
    (keeps_last run.setting c Keeps Allowed lasts run.between run.begun run.last
    (λ event has. may event (Contains-append_right (script_of run.history) (event_of run.begun) event has)) is.begun)

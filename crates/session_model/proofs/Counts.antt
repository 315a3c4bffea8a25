-- Counts of faults don't fall over a session.
use Rattle.std.proofs.Common.{◌≡◌, ℕ, ◌-◌, ◌^◌, ◌<◌, ◌≤◌, Bool, true, false, List, [], ◌∷◌, ◌++◌, length, map, Option, Some, None, Result, Ok, Err, sym, ap, ◌∙◌, subst, inl, inr, ◌⊎◌, arith}
use Rattle.std.specs.Prelude.{slice_get, MatchOption}
use Rattle.std.specs.Bool.{MatchBool}
use Rattle.std.specs.List.{Contains}
use Rattle.std.proofs.lemmas.Bool.{cases_eq}
use Rattle.std.proofs.lemmas.List.Elements.{Contains-append_cases, Contains-append_right}
use Rattle.session.specs.CdBase.ids.Tag.{Tag}
use Rattle.session.specs.CdBase.ids.UserId.{UserId}
use Rattle.session.specs.CdBase.ids.Version.{Version}
use Rattle.session.specs.CdEdges.Causes.{Rose}
use Rattle.session.specs.CdEdges.Disk.{Cloud}
use Rattle.local_link.specs.CommitJournal.errors.OpenErr.{OpenErr}
use Rattle.local_link.specs.CommitJournal.errors.OpenErr.TheVariants as errors
use Rattle.rebuild.specs.Messages.request.Request.{Request}
use Rattle.rebuild.specs.Messages.reply.Reply.{Reply}
use Rattle.subset_restore.specs.UserDedup.Exec.{Peer}
use Rattle.subset_restore.proofs.UserDedup.Owned.{contains_cases, contains_nothing, contains_here}
use Rattle.local_link.specs.ShareServer.Serving.{ReopensAs}
use Rattle.rebuild.specs.UploadJob.Lanes as lanes
use Rattle.rebuild.specs.LaneSteps.Runs.{LaneTurn, Progress, LaneRun, progress_after}
use Rattle.session.specs.declared.event.Event.{Event}
use Rattle.session.specs.declared.event.Event.TheVariants as events
use Rattle.session.specs.Transcript.refusal.Refusal.{Refusal}
use Rattle.session.specs.Transcript.line.Line.{Line}
use Rattle.session.specs.Transcript.line.Line.TheVariants as lines
use Rattle.session_model.specs.Vault.{Setting, Vault, HasVaultExecuted, OneGoes, lanes_of, opening, with_peer, ExecutesAll}
use Rattle.session_model.specs.Steps.{Moment, Execution, moment_of, turn_moment, target_moments, LaneStep, DropStep, FinishLanes, ListRun, IsReplaceLine, ReopensUntold, RestartStep, VStep}
use Rattle.session_model.specs.Run.{Answered, Turns}
use Rattle.session_model.specs.Headline.{Session, Begun, ComesTo, IsPartOf, IsRun}
use Rattle.session_model.proofs.With.{with_here, same_other}

-- a replacement leaves the count, or it rose
pub replaced_count : (told : Bool) (cloud before after : ℕ) (line : Line) → IsReplaceLine told cloud before after line → (after ≡ before) ⊎ Rose before after
replaced_count told cloud before after (lines.Replaced c) says = inl says.1
replaced_count told cloud before after (lines.Fault c) says = inr says.1
replaced_count told cloud before after (lines.Damaged c at byte) says = inl says.2
replaced_count told cloud before after (lines.Opened shape) says = absurd says
replaced_count told cloud before after (lines.Done count) says = absurd says
replaced_count told cloud before after (lines.Job job) says = absurd says
replaced_count told cloud before after (lines.Step job lane news) says = absurd says
replaced_count told cloud before after (lines.JobStored job) says = absurd says
replaced_count told cloud before after (lines.Lost job lane) says = absurd says
replaced_count told cloud before after (lines.End job stored) says = absurd says
replaced_count told cloud before after (lines.Got bytes) says = absurd says
replaced_count told cloud before after (lines.Refused why) says = absurd says
replaced_count told cloud before after (lines.Entries user c count) says = absurd says
replaced_count told cloud before after (lines.Entry tag version) says = absurd says
replaced_count told cloud before after (lines.Armed c) says = absurd says
replaced_count told cloud before after (lines.Restarted c commands) says = absurd says
replaced_count told cloud before after (lines.Rebuilt user c files skipped) says = absurd says
replaced_count told cloud before after (lines.Skipped tag version why) says = absurd says
replaced_count told cloud before after (lines.Deleted c) says = absurd says
replaced_count told cloud before after (lines.Missing c) says = absurd says
replaced_count told cloud before after (lines.Full c room used need limit) says = absurd says
replaced_count told cloud before after (lines.Rotten c named found) says = absurd says
replaced_count told cloud before after (lines.NoMemory c) says = absurd says
replaced_count told cloud before after (lines.Strange c kind) says = absurd says

module _ (f : ℕ) (small : f < 2 ^ 64) where
  -- what isn't above one count isn't above the other
  abbrev Keeps : Peer → Peer → Type 0
  Keeps p q = f ≤ p.faults → f ≤ q.faults

  past_rise : (before now : ℕ) → Rose before now → f ≤ before → f ≤ now
  past_rise before now rose le = omega (arith, small, rose, le)

  keeps_up : (before now : ℕ) → before ≤ now → f ≤ before → f ≤ now
  keeps_up before now up le = omega (arith, up, le)

  keeps_same : (p q : Peer) → q ≡ p → Keeps p q
  keeps_same p q same le = subst (λ (x : Peer). f ≤ x.faults) (sym same) le

  keeps_still : (p q : Peer) → q.faults ≡ p.faults → Keeps p q
  keeps_still p q same le = subst (λ (n : ℕ). f ≤ n) (sym same) le

  module _ (s : Setting) (c : ℕ) where
    keeps_one : (cloud : ℕ) (Goes : Peer → Peer → Type 0) (old new : ℕ → Peer) → OneGoes cloud Goes old new → (Goes (old cloud) (new cloud) → Keeps (old cloud) (new cloud)) → Keeps (old c) (new c)
    keeps_one cloud Goes old new x there = elim (cases_eq c cloud) [
      | inl same ↦ subst (λ (n : ℕ). Keeps (old n) (new n)) (sym same) (there x.goes)
      | inr ne ↦ keeps_same (old c) (new c) (x.others c ne)
    ]

    pub keeps_executes : (cloud : ℕ) (old new : ℕ → Peer) (request : Request) (reply : Reply) → HasVaultExecuted s cloud old request reply new → Keeps (old c) (new c)
    keeps_executes cloud old new request reply x = elim (cases_eq c cloud) [
      | inl same ↦ subst (λ (n : ℕ). Keeps (old n) (new n)) (sym same) (keeps_up (old cloud).faults (new cloud).faults x.does.counts.faults)
      | inr ne ↦ keeps_same (old c) (new c) (x.others c ne)
    ]

    pub keeps_run : (cloud : ℕ) (p : Progress) (old : ℕ → Peer) (turns : List (LaneTurn (ℕ → Peer))) (last : Progress) (new : ℕ → Peer) → LaneRun (HasVaultExecuted s cloud) p old turns last new → Keeps (old c) (new c)
    keeps_run cloud p old [] last new run le = keeps_same (old c) (new c) (ap (λ (g : ℕ → Peer). g c) run.2) le
    keeps_run cloud p old (t ∷ turns) last new run le =
        keeps_run cloud (progress_after p t.reply) run.3.0 turns last new run.3.2 (keeps_executes cloud old run.3.0 t.request t.reply run.3.1 le)

    pub keeps_finish : (job : ℕ) (clouds : List ℕ) (old : Vault) (answers : List Line) (moments : List Moment) (new : Vault) → FinishLanes s job clouds old answers moments new → Keeps (old.peers c) (new.peers c)
    keeps_finish job [] old answers moments new x le = keeps_same (old.peers c) (new.peers c) (ap (λ (v : Vault). v.peers c) x.2) le
    keeps_finish job (cloud ∷ clouds) old answers moments new x le = keeps_finish job clouds x.3 x.5 x.6 new x.13 (keeps_run cloud _ old.peers x.0 x.1 x.3.peers x.7 le)

    keeps_lane : (job cloud : ℕ) (request : Option Request) (old : Vault) (answers : List Line) (moments : List Moment) (new : Vault) → LaneStep s job cloud request old answers moments new → Keeps (old.peers c) (new.peers c)
    keeps_lane job cloud None old answers moments new x = keeps_same (old.peers c) (new.peers c) (ap (λ (v : Vault). v.peers c) x.2)
    keeps_lane job cloud (Some request) old answers moments new x = keeps_executes cloud old.peers new.peers request x.0 x.3

    keeps_drop : (job cloud : ℕ) (request : Option Request) (old : Vault) (answers : List Line) (moments : List Moment) (new : Vault) → DropStep s job cloud request old answers moments new → Keeps (old.peers c) (new.peers c)
    keeps_drop job cloud None old answers moments new x = keeps_same (old.peers c) (new.peers c) (ap (λ (v : Vault). v.peers c) x.2)
    keeps_drop job cloud (Some request) old answers moments new x = keeps_executes cloud old.peers new.peers request x.0 x.1

    keeps_list : (user : UserId) (cloud : ℕ) (above : Option (Tag × Version)) (old : ℕ → Peer) (turns : List (LaneTurn (ℕ → Peer))) (listed : Result (List (Tag × Version)) Refusal) (new : ℕ → Peer)
        → ListRun s user cloud above old turns listed new → Keeps (old c) (new c)
    keeps_list user cloud above old [] listed new run le = absurd run
    keeps_list user cloud above old (t ∷ turns) listed new run le =
        let mid = keeps_executes cloud old run.2.0 t.request t.reply run.2.1 le in
        elim run.2.2 [
          | inl x ↦ keeps_same (run.2.0 c) (new c) (ap (λ (g : ℕ → Peer). g c) x.2) mid
          | inr x ↦ keeps_list user cloud (slice_get x.0 (length x.0 - 1)) run.2.0 turns x.1 new x.5 mid
        ]

    keeps_reopen : (result : Result ℕ OpenErr) (p q : Peer) → ReopensAs true p q result → Keeps p q
    keeps_reopen (Ok commands) p q r = keeps_still p q r.1
    keeps_reopen (Err errors.Fault) p q r = past_rise p.faults q.faults r.1
    keeps_reopen (Err (errors.NotBegun len)) p q r = keeps_same p q r.0
    keeps_reopen (Err (errors.OtherStore found asked at)) p q r = absurd r
    keeps_reopen (Err (errors.Damaged at byte)) p q r = absurd r

    keeps_restart : (cloud : ℕ) (line : Line) (p q : Peer) → RestartStep s cloud line p q → Keeps p q
    keeps_restart cloud line p q r = by_told (s.told cloud) r.2
      where
        by_told : (b : Bool) → MatchBool b (ReopensAs true p q r.0) (ReopensUntold r.0 p q) → Keeps p q
        by_told true x = keeps_reopen r.0 p q x
        by_told false x = keeps_up p.faults q.faults x.counts.faults

    keeps_replace : (p q : Peer) → (q.faults ≡ p.faults) ⊎ Rose p.faults q.faults → Keeps p q
    keeps_replace p q (inl same) = keeps_still p q same
    keeps_replace p q (inr rose) = past_rise p.faults q.faults rose

    pub keeps_step : (old : Vault) (event : Event) (answers : List Line) (moments : List Moment) (new : Vault) → VStep s old event answers moments new → Keeps (old.peers c) (new.peers c)
    keeps_step old (events.Upload user path version bytes) answers moments new x = keeps_same (old.peers c) (new.peers c) (ap (λ (g : ℕ → Peer). g c) x.2)
    keeps_step old (events.Step job lane) answers moments new x = keeps_lane job lane.0 (lanes.request_at (lanes_of old.jobs job) lane.0) old answers moments new x
    keeps_step old (events.Lose job lane) answers moments new x = keeps_same (old.peers c) (new.peers c) (ap (λ (v : Vault). v.peers c) x.2)
    keeps_step old (events.Drop job lane) answers moments new x = keeps_drop job lane.0 (lanes.request_at (lanes_of old.jobs job) lane.0) old answers moments new x
    keeps_step old (events.Finish job) answers moments new x = keeps_finish job _ old x.0 moments new x.1
    keeps_step old (events.Get user path version clouds) answers moments new x = keeps_up (old.peers c).faults (new.peers c).faults (x.1.read.read c).1.faults
    keeps_step old (events.Arm cloud calls keep) answers moments new x = keeps_one cloud.0 _ old.peers new.peers x.0 (λ armed. keeps_still (old.peers cloud.0) (new.peers cloud.0) armed.faults)
    keeps_step old (events.Restart cloud) answers moments new x = keeps_one cloud.0 _ old.peers new.peers x.1 (λ r. keeps_restart cloud.0 x.0 (old.peers cloud.0) (new.peers cloud.0) r)
    keeps_step old (events.List user cloud) answers moments new x = keeps_list user cloud.0 None old.peers x.0 x.1 new.peers x.2
    keeps_step old (events.Replace cloud) answers moments new x = keeps_one cloud.0 _ old.peers new.peers x.1
        (λ r. keeps_replace (old.peers cloud.0) (new.peers cloud.0) (replaced_count (s.told cloud.0) cloud.0 (old.peers cloud.0).faults (new.peers cloud.0).faults x.0 r.says))
    keeps_step old (events.Rebuild user target from) answers moments new x = elim (cases_eq c target.0) [
      | inl same ↦ keeps_up (old.peers c).faults (new.peers c).faults (subst (λ (n : ℕ). (old.peers n).faults ≤ (new.peers n).faults) (sym same) x.0.leaves.counts.faults)
      | inr ne ↦ keeps_up (old.peers c).faults (new.peers c).faults (x.0.leaves.read c ne).1.faults
    ]
    keeps_step old (events.Delete user path version cloud) answers moments new x = keeps_executes cloud.0 old.peers new.peers _ x.0.0 x.0.2

    pub keeps_turns : (history : List Answered) (old new : Vault) → Turns s old history new → Keeps (old.peers c) (new.peers c)
    keeps_turns [] old new turns le = keeps_same (old.peers c) (new.peers c) (ap (λ (v : Vault). v.peers c) turns) le
    keeps_turns (a ∷ more) old new turns le = keeps_turns more a.after new turns.2 (keeps_step old a.event a.answers a.moments a.after turns.1 le)

    -- ---- at each moment of a line

    keeps_alone : (old : ℕ → Peer) (event : Option Execution) (moments : List Moment) → moments ≡ record { peers = old; event = event } ∷ [] → (m : Moment) → Contains moments m → Keeps (old c) (m.peers c)
    keeps_alone old event moments e m has = elim (contains_cases (record { peers = old; event = event }) [] m (subst (λ (l : List Moment). Contains l m) e has)) [
      | inl same ↦ keeps_same (old c) (m.peers c) (ap (λ (n : Moment). n.peers c) (sym same))
      | inr none ↦ absurd (contains_nothing m none)
    ]

    keeps_turn : (cloud : ℕ) (p : Progress) (old : ℕ → Peer) (turns : List (LaneTurn (ℕ → Peer))) (last : Progress) (new : ℕ → Peer) → LaneRun (HasVaultExecuted s cloud) p old turns last new
        → (m : Moment) → Contains (map (moment_of cloud) turns) m → Keeps (old c) (m.peers c)
    keeps_turn cloud p old [] last new run m has le = absurd (contains_nothing m has)
    keeps_turn cloud p old (t ∷ turns) last new run m has le = elim (contains_cases (moment_of cloud t) (map (moment_of cloud) turns) m has) [
      | inl same ↦ keeps_same (old c) (m.peers c) (ap (λ (n : Moment). n.peers c) (sym same) ∙ ap (λ (g : ℕ → Peer). g c) run.1) le
      | inr later ↦ keeps_turn cloud (progress_after p t.reply) run.3.0 turns last new run.3.2 m later (keeps_executes cloud old run.3.0 t.request t.reply run.3.1 le)
    ]

    keeps_finish_at : (job : ℕ) (clouds : List ℕ) (old : Vault) (answers : List Line) (moments : List Moment) (new : Vault) → FinishLanes s job clouds old answers moments new
        → (m : Moment) → Contains moments m → Keeps (old.peers c) (m.peers c)
    keeps_finish_at job [] old answers moments new x m has le = absurd (contains_nothing m (subst (λ (l : List Moment). Contains l m) x.1 has))
    keeps_finish_at job (cloud ∷ clouds) old answers moments new x m has le = elim (Contains-append_cases (map (moment_of cloud) x.0) x.6 m (subst (λ (l : List Moment). Contains l m) x.12 has)) [
      | inl here ↦ keeps_turn cloud _ old.peers x.0 x.1 x.3.peers x.7 m here le
      | inr later ↦ keeps_finish_at job clouds x.3 x.5 x.6 new x.13 m later (keeps_run cloud _ old.peers x.0 x.1 x.3.peers x.7 le)
    ]

    keeps_lane_at : (job cloud : ℕ) (request : Option Request) (old : Vault) (answers : List Line) (moments : List Moment) (new : Vault) → LaneStep s job cloud request old answers moments new
        → (m : Moment) → Contains moments m → Keeps (old.peers c) (m.peers c)
    keeps_lane_at job cloud None old answers moments new x = keeps_alone old.peers None moments x.1
    keeps_lane_at job cloud (Some request) old answers moments new x = keeps_alone old.peers _ moments x.4

    keeps_drop_at : (job cloud : ℕ) (request : Option Request) (old : Vault) (answers : List Line) (moments : List Moment) (new : Vault) → DropStep s job cloud request old answers moments new
        → (m : Moment) → Contains moments m → Keeps (old.peers c) (m.peers c)
    keeps_drop_at job cloud None old answers moments new x = keeps_alone old.peers None moments x.1
    keeps_drop_at job cloud (Some request) old answers moments new x = keeps_alone old.peers _ moments x.2

    keeps_list_at : (user : UserId) (cloud : ℕ) (above : Option (Tag × Version)) (old : ℕ → Peer) (turns : List (LaneTurn (ℕ → Peer))) (listed : Result (List (Tag × Version)) Refusal) (new : ℕ → Peer)
        → ListRun s user cloud above old turns listed new → (m : Moment) → Contains (map (moment_of cloud) turns) m → Keeps (old c) (m.peers c)
    keeps_list_at user cloud above old [] listed new run m has le = absurd run
    keeps_list_at user cloud above old (t ∷ turns) listed new run m has le = elim (contains_cases (moment_of cloud t) (map (moment_of cloud) turns) m has) [
      | inl same ↦ keeps_same (old c) (m.peers c) (ap (λ (n : Moment). n.peers c) (sym same) ∙ ap (λ (g : ℕ → Peer). g c) run.0) le
      | inr later ↦ let mid = keeps_executes cloud old run.2.0 t.request t.reply run.2.1 le in elim run.2.2 [
        | inl x ↦ absurd (contains_nothing m (subst (λ (l : List (LaneTurn (ℕ → Peer))). Contains (map (moment_of cloud) l) m) x.1 later))
        | inr x ↦ keeps_list_at user cloud (slice_get x.0 (length x.0 - 1)) run.2.0 turns x.1 new x.5 m later mid
      ]
    ]

    -- the target of a rebuild
    keeps_target : (old : ℕ → Peer) (p : Peer) (turns : List (LaneTurn Peer)) (end : Peer) → ExecutesAll s c p turns end → (m : Moment) → Contains (target_moments old c turns end) m → Keeps p (m.peers c)
    keeps_target old p [] end x m has le = elim (contains_cases (record { peers = with_peer old c end; event = None }) [] m has) [
      | inl same ↦ keeps_same p (m.peers c) (ap (λ (n : Moment). n.peers c) (sym same) ∙ with_here old c end ∙ x) le
      | inr none ↦ absurd (contains_nothing m none)
    ]
    keeps_target old p (t ∷ turns) end x m has le = elim (contains_cases (turn_moment old c t) (target_moments old c turns end) m has) [
      | inl same ↦ keeps_same p (m.peers c) (ap (λ (n : Moment). n.peers c) (sym same) ∙ with_here old c t.before ∙ x.0) le
      | inr later ↦ keeps_target old x.1.0 turns end x.1.2 m later (keeps_up p.faults x.1.0.faults x.1.1.counts.faults le)
    ]

    keeps_rebuild : (old : ℕ → Peer) (target : ℕ) (turns : List (LaneTurn Peer)) (new : ℕ → Peer) → ExecutesAll s target (old target) turns (new target)
        → (m : Moment) → Contains (target_moments old target turns (new target)) m → Keeps (old c) (m.peers c)
    keeps_rebuild old target turns new x m has = elim (cases_eq c target) [
      | inl same ↦ keeps_target old (old c) turns (new c) (subst (λ (n : ℕ). ExecutesAll s n (old n) turns (new n)) (sym same) x) m
          (subst (λ (n : ℕ). Contains (target_moments old n turns (new n)) m) (sym same) has)
      | inr ne ↦ keeps_same (old c) (m.peers c) (same_other c old target turns (new target) ne m has)
    ]

    keeps_at : (old : Vault) (event : Event) (answers : List Line) (moments : List Moment) (new : Vault) → VStep s old event answers moments new → (m : Moment) → Contains moments m → Keeps (old.peers c) (m.peers c)
    keeps_at old (events.Upload user path version bytes) answers moments new x = keeps_alone old.peers None moments x.1
    keeps_at old (events.Step job lane) answers moments new x = keeps_lane_at job lane.0 (lanes.request_at (lanes_of old.jobs job) lane.0) old answers moments new x
    keeps_at old (events.Lose job lane) answers moments new x = keeps_alone old.peers None moments x.1
    keeps_at old (events.Drop job lane) answers moments new x = keeps_drop_at job lane.0 (lanes.request_at (lanes_of old.jobs job) lane.0) old answers moments new x
    keeps_at old (events.Finish job) answers moments new x = keeps_finish_at job _ old x.0 moments new x.1
    keeps_at old (events.Get user path version clouds) answers moments new x = keeps_alone old.peers None moments x.3
    keeps_at old (events.Arm cloud calls keep) answers moments new x = keeps_alone old.peers None moments x.2
    keeps_at old (events.Restart cloud) answers moments new x = keeps_alone old.peers None moments x.3
    keeps_at old (events.List user cloud) answers moments new x = λ m has.
        keeps_list_at user cloud.0 None old.peers x.0 x.1 new.peers x.2 m (subst (λ (l : List Moment). Contains l m) x.4 has)
    keeps_at old (events.Replace cloud) answers moments new x = keeps_alone old.peers None moments x.3
    keeps_at old (events.Rebuild user target from) answers moments new x = λ m has.
        elim (contains_cases (record { peers = old.peers; event = None }) (target_moments old.peers target.0 x.0.turns (new.peers target.0)) m (subst (λ (l : List Moment). Contains l m) x.0.moments_are has)) [
          | inl same ↦ keeps_same (old.peers c) (m.peers c) (ap (λ (n : Moment). n.peers c) (sym same))
          | inr later ↦ keeps_rebuild old.peers target.0 x.0.turns new.peers x.0.executes m later
        ]
    keeps_at old (events.Delete user path version cloud) answers moments new x = keeps_alone old.peers _ moments x.0.5

    -- a line that was begun
    pub keeps_last : (between : Vault) (begun : Option Begun) (last : ℕ → Peer) → MatchOption begun (last ≡ between.peers) (λ b. IsPartOf s between b last) → Keeps (between.peers c) (last c)
    keeps_last between None last x le = keeps_same (between.peers c) (last c) (ap (λ (g : ℕ → Peer). g c) x) le
    keeps_last between (Some b) last x le = by_rest x.1 x.3 x.4
      where
        by_rest : (rest : List Moment) → VStep s between b.event x.0 (b.moments ++ rest) x.2 → ComesTo rest x.2.peers last → f ≤ (last c).faults
        by_rest [] step comes = keeps_same (x.2.peers c) (last c) (ap (λ (g : ℕ → Peer). g c) comes) (keeps_step between b.event x.0 (b.moments ++ []) x.2 step le)
        by_rest (m ∷ rest) step comes =
            keeps_same (m.peers c) (last c) (ap (λ (g : ℕ → Peer). g c) comes)
            (keeps_at between b.event x.0 (b.moments ++ m ∷ rest) x.2 step m (Contains-append_right b.moments (m ∷ rest) m (contains_here m rest)) le)

    -- from a session's start to its last state
    pub counts_last : (clouds : ℕ → Cloud) (run : Session) → IsRun clouds run → s ≡ run.setting → f ≤ (clouds c).faults → f ≤ (run.last c).faults
    counts_last clouds run is same le =
        keeps_last run.between run.begun run.last (subst (λ (t : Setting). MatchOption run.begun (run.last ≡ run.between.peers) (λ b. IsPartOf t run.between b run.last)) (sym same) is.begun)
        (keeps_turns run.history (opening clouds) run.between (subst (λ (t : Setting). Turns t (opening clouds) run.history run.between) (sym same) is.answered) le)

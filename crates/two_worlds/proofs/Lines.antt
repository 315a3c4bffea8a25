-- Each line of a session, as a user's own session has it.
use Rattle.std.proofs.Common.{◌≡◌, ◌≢◌, ℕ, zero, suc, ◌+◌, ◌-◌, ◌<◌, ◌≤◌, Bool, true, false, cond, List, [], ◌∷◌, ◌++◌, length, map, take, Option, Some, None, Result, Ok, Err, refl, sym, ap, ◌∙◌, subst, inl, inr, arith, append-nil, eq-eqb}
use Rattle.std.specs.Prelude.{◌==◌, All}
use Rattle.std.specs.Bool.{MatchBool}
use Rattle.std.specs.List.{Contains, range_with_len}
use Rattle.std.proofs.lemmas.Bool.{cases_eq, eqb-true}
use Rattle.std.proofs.lemmas.List.{map-append}
use Rattle.std.proofs.lemmas.List.Elements.{filter-append}
use Rattle.recipe.specs.CdBase.ids.CloudNo.{CloudNo}
use Rattle.recipe.specs.CdBase.ids.UserId.{UserId}
use Rattle.recipe.specs.CdBase.ids.Version.{Version}
use Rattle.session_model.specs.CdEdges.Causes.{Rose}
use Rattle.session_model.specs.CdEdges.Disk.{Cloud}
use Rattle.session_model.specs.CommitJournal.errors.OpenErr.{OpenErr}
use Rattle.session_model.specs.CommitJournal.errors.OpenErr.TheVariants as errors
use Rattle.session_model.specs.Messages.request.Request.{Request}
use Rattle.session_model.specs.UserDedup.command.Command.{Command}
use Rattle.session_model.specs.UserDedup.Cloud.{commands_of, user_view}
use Rattle.session_model.specs.UserDedup.Exec.{Peer, Settles}
use Rattle.session_model.proofs.UserDedup.Owned.{contains_cases, contains_nothing}
use Rattle.two_worlds.proofs.Rules.{EntriesOwned, none_owned}
use Rattle.session_model.specs.UserDedup.Cloud.{counted}
use Rattle.session_model.specs.ShareServer.Serving.{ReopensAs}
use Rattle.session_model.specs.UploadJob.Upload.{FileVersion}
use Rattle.session_model.specs.UploadJob.Lanes.{LaneView}
use Rattle.session_model.specs.UploadJob.Lanes as lanes
use Rattle.session_model.specs.Session.event.Event.{Event}
use Rattle.session_model.specs.Session.event.Event.TheVariants as events
use Rattle.session_model.specs.Session.Spelling.{FitsEvent}
use Rattle.session_model.specs.Transcript.line.Line.{Line}
use Rattle.session_model.specs.Transcript.line.Line.TheVariants as lines
use Rattle.session_model.specs.Vault.{Setting, JobState, Vault, OneGoes, new_job, lanes_of}
use Rattle.session_model.specs.Steps.{Moment, cloud_no, version_of, LaneStep, DropStep, lose_lines, RestartStep, IsReplaceLine, ReplaceStep, ReopensUntold, VStep, all_done}
use Rattle.two_worlds.specs.Worlds.{own_versions, own_place, is_own_job, own_job, is_own, names_none, is_arm, own_event, own_line}
use Rattle.session_model.proofs.Jobs.{Brings, versions, brings_step}
use Rattle.two_worlds.proofs.Numbers.{is_job_of, own_jobs}
use Rattle.two_worlds.proofs.Peers.{own_peer, IsCalmPeer, settled_as}
use Rattle.two_worlds.proofs.Own.{own_peers, own_vault, own_moment, own_turn, own_moments, Still, Known, known_first, Premises, CalmPeers}
use Rattle.two_worlds.proofs.Lanes.{own_lanes_by, calm_lane, calm_drop, own_lane, own_drop, other_lane, other_drop, calm_finish, own_finish, other_finish}
use Rattle.two_worlds.proofs.Reading.{get_same, own_get, calm_list, other_list, own_list, calm_delete, other_delete, own_delete, get_line_same, list_lines_same}
use Rattle.two_worlds.proofs.Rebuilt.{own_settles, calm_rebuild, other_rebuild, own_rebuild}

-- ---- ranges and numbers

pub in_range : (start n c : ℕ) → Contains (range_with_len start n) c → c < start + n
in_range start zero c has = absurd (contains_nothing c has)
in_range start (suc n) c has = elim (contains_cases start (range_with_len (start + 1) n) c has) [
  | inl same ↦ let e : start ≡ c = same in omega (arith, e)
  | inr later ↦ let h = in_range (start + 1) n c later in omega (arith, h)
]

pub same_user : (v w : UserId) → (v.0 == w.0) ≡ true → v ≡ w
same_user v w e = let same = eqb-true v.0 w.0 e in λ i. record { 0 = same i }

pub other_user : (v w : UserId) → (v.0 == w.0) ≡ false → v.0 ≢ w.0
other_user v w e same = let t = eq-eqb v.0 w.0 same in let no : true ≡ false = sym t ∙ e in cc

module _ (u : UserId) where
  place_of_all : (jobs : List JobState) → own_place u (versions jobs) (length jobs) ≡ length (own_jobs u jobs)
  place_of_all [] = refl
  place_of_all (j ∷ jobs) = by_test (is_job_of u j) (place_of_all jobs)
    where
      by_test : (b : Bool) → own_place u (versions jobs) (length jobs) ≡ length (own_jobs u jobs)
          → length (cond b (j.version ∷ own_versions u (take (length jobs) (versions jobs))) (own_versions u (take (length jobs) (versions jobs)))) ≡ length (cond b (j ∷ own_jobs u jobs) (own_jobs u jobs))
      by_test true rest = ap (λ (n : ℕ). suc n) rest
      by_test false rest = rest

  less_one : (n : ℕ) → n + 1 - 1 ≡ n
  less_one n = omega arith

  new_number : (vs : List FileVersion) (jobs : List JobState) → versions jobs ≡ vs → own_job u vs (length jobs + 1) ≡ length (own_jobs u jobs) + 1
  new_number vs jobs those =
      ap (λ (ws : List FileVersion). own_job u ws (length jobs + 1)) (sym those)
      ∙ ap (λ (place : ℕ). own_place u (versions jobs) place + 1) (less_one (length jobs))
      ∙ ap (λ (n : ℕ). n + 1) (place_of_all jobs)

  own_job_more : (jobs : List JobState) (j : JobState) → is_job_of u j ≡ true → own_jobs u (jobs ++ j ∷ []) ≡ own_jobs u jobs ++ j ∷ []
  own_job_more jobs j own = filter-append (is_job_of u) jobs (j ∷ []) ∙ ap (λ (b : Bool). own_jobs u jobs ++ cond b (j ∷ []) []) own

  other_job_more : (jobs : List JobState) (j : JobState) → is_job_of u j ≡ false → own_jobs u (jobs ++ j ∷ []) ≡ own_jobs u jobs
  other_job_more jobs j other = filter-append (is_job_of u) jobs (j ∷ []) ∙ ap (λ (b : Bool). own_jobs u jobs ++ cond b (j ∷ []) []) other ∙ append-nil (own_jobs u jobs)

  -- the answers that the user's own session has to a line that names no user
  abbrev pub none_answers : Event → List Line → Vault → List Line
  none_answers (events.Upload user path version bytes) answers new = answers
  none_answers (events.Step job lane) answers new = answers
  none_answers (events.Lose job lane) answers new = answers
  none_answers (events.Drop job lane) answers new = answers
  none_answers (events.Finish job) answers new = answers
  none_answers (events.Get user path version clouds) answers new = answers
  none_answers (events.List user cloud) answers new = answers
  none_answers (events.Arm cloud calls keep) answers new = answers
  none_answers (events.Restart cloud) answers new = lines.Restarted cloud (counted (commands_of u (new.peers cloud.0).list)) ∷ []
  none_answers (events.Replace cloud) answers new = answers
  none_answers (events.Rebuild user target from) answers new = answers
  none_answers (events.Delete user path version cloud) answers new = answers

-- ---- openings and replacements

record Reopened (p q : Peer) : Type 0 where
  pub settles : Settles p q
  pub faults : q.faults ≡ p.faults
  pub armings : q.armings ≡ p.armings

reopened : (r : Result ℕ OpenErr) (p q : Peer) → (Rose p.faults q.faults → ⊥) → ReopensAs true p q r → Reopened p q
reopened (Ok commands) p q still x = record { settles = x.0; faults = x.1; armings = x.2 }
reopened (Err errors.Fault) p q still x = absurd (still x.1)
reopened (Err (errors.NotBegun len)) p q still x = absurd (let no : true ≡ false = x.1 in cc)
reopened (Err (errors.OtherStore found asked at)) p q still x = absurd x
reopened (Err (errors.Damaged at byte)) p q still x = absurd x

module _ (s : Setting) (u : UserId) (k : ℕ → Cloud) (In : ℕ → List ℕ → Type 0) (prem : Premises s u k In) (cloud : ℕ) (below : cloud < s.shape.n) where
  restarted : (line : Line) (p q : Peer) → (Rose p.faults q.faults → ⊥) → RestartStep s cloud line p q → Reopened p q
  restarted line p q still x =
      reopened x.0 p q still (subst (λ (b : Bool). MatchBool b (ReopensAs true p q x.0) (ReopensUntold x.0 p q)) (prem.told cloud below) x.2)

  reopened_calm : (p q : Peer) → IsCalmPeer s.shape u p → Reopened p q → IsCalmPeer s.shape u q
  reopened_calm p q calm x =
      record { pending = x.settles.pending; owned = subst (λ (l : List Command). EntriesOwned s.shape (user_view s.shape l u)) (sym (settled_as p q.list calm.pending x.settles.list)) calm.owned }

  own_restart : (line : Line) (p q : Peer) → p.pending ≡ None → (Rose p.faults q.faults → ⊥) → RestartStep s cloud line p q
      → RestartStep s cloud (lines.Restarted (cloud_no cloud) (counted (commands_of u q.list))) (own_peer u (k cloud) p) (own_peer u (k cloud) q)
  own_restart line p q none still x =
      let y = restarted line p q still x in
      let n = counted (commands_of u q.list) in (
        Ok n,
        refl,
        subst (λ (b : Bool). MatchBool b (ReopensAs true (own_peer u (k cloud) p) (own_peer u (k cloud) q) (Ok n)) (ReopensUntold (Ok n) (own_peer u (k cloud) p) (own_peer u (k cloud) q))) (sym (prem.told cloud below))
            (own_settles u (k cloud) p q none y.settles, refl, refl, refl),
      )

  calm_restart : (old new : ℕ → Peer) (line : Line) → CalmPeers s u k In old → Still s.shape.n old new → OneGoes cloud (RestartStep s cloud line) old new → CalmPeers s u k In new
  calm_restart old new line calm still x = record {
    each = λ c. elim (cases_eq c cloud) [
      | inl same ↦ subst (λ (d : ℕ). IsCalmPeer s.shape u (new d)) (sym same)
          (reopened_calm (old cloud) (new cloud) (calm.each cloud) (restarted line (old cloud) (new cloud) (still cloud below) x.goes))
      | inr ne ↦ subst (IsCalmPeer s.shape u) (sym (x.others c ne)) (calm.each c)
    ];
    beyond = λ c over. ap (λ (q : Peer). q.list) (x.others c (λ same. let e : c ≡ cloud = same in omega (arith, e, over, below))) ∙ calm.beyond c over;
  }

  calm_replace : (old new : ℕ → Peer) (line : Line) → CalmPeers s u k In old → OneGoes cloud (ReplaceStep s cloud line) old new → CalmPeers s u k In new
  calm_replace old new line calm x = record {
    each = λ c. elim (cases_eq c cloud) [
      | inl same ↦ subst (λ (d : ℕ). IsCalmPeer s.shape u (new d)) (sym same) (record {
        pending = x.goes.pending;
        owned = subst (λ (l : List Command). EntriesOwned s.shape (user_view s.shape l u)) (sym x.goes.list) (none_owned s.shape);
      })
      | inr ne ↦ subst (IsCalmPeer s.shape u) (sym (x.others c ne)) (calm.each c)
    ];
    beyond = λ c over. ap (λ (q : Peer). q.list) (x.others c (λ same. let e : c ≡ cloud = same in omega (arith, e, over, below))) ∙ calm.beyond c over;
  }

  replaced_says : (told : Bool) → told ≡ true → (before after f : ℕ) → (Rose before after → ⊥) → (line : Line) → IsReplaceLine told cloud before after line → IsReplaceLine told cloud f f line
  replaced_says told is before after f still (lines.Replaced c) x = (x.0, refl)
  replaced_says told is before after f still (lines.Fault c) x = absurd (still x.1)
  replaced_says told is before after f still (lines.Damaged c at byte) x = absurd (let no : true ≡ false = sym is ∙ x.1 in cc)
  replaced_says told is before after f still (lines.Opened shape) x = absurd x
  replaced_says told is before after f still (lines.Done count) x = absurd x
  replaced_says told is before after f still (lines.Job job) x = absurd x
  replaced_says told is before after f still (lines.Step job lane news) x = absurd x
  replaced_says told is before after f still (lines.JobStored job) x = absurd x
  replaced_says told is before after f still (lines.Lost job lane) x = absurd x
  replaced_says told is before after f still (lines.End job stored) x = absurd x
  replaced_says told is before after f still (lines.Got bytes) x = absurd x
  replaced_says told is before after f still (lines.Refused why) x = absurd x
  replaced_says told is before after f still (lines.Entries user c count) x = absurd x
  replaced_says told is before after f still (lines.Entry tag version) x = absurd x
  replaced_says told is before after f still (lines.Armed c) x = absurd x
  replaced_says told is before after f still (lines.Restarted c commands) x = absurd x
  replaced_says told is before after f still (lines.Rebuilt user c files skipped) x = absurd x
  replaced_says told is before after f still (lines.Skipped tag version why) x = absurd x
  replaced_says told is before after f still (lines.Deleted c) x = absurd x
  replaced_says told is before after f still (lines.Missing c) x = absurd x
  replaced_says told is before after f still (lines.Full c room used need limit) x = absurd x
  replaced_says told is before after f still (lines.Rotten c named found) x = absurd x
  replaced_says told is before after f still (lines.NoMemory c) x = absurd x
  replaced_says told is before after f still (lines.Strange c kind) x = absurd x

  own_replace : (line : Line) (p q : Peer) → (Rose p.faults q.faults → ⊥) → ReplaceStep s cloud line p q → ReplaceStep s cloud line (own_peer u (k cloud) p) (own_peer u (k cloud) q)
  own_replace line p q still x = record {
    list = ap (commands_of u) x.list;
    pending = refl;
    armings = refl;
    says = replaced_says (s.told cloud) (prem.told cloud below) p.faults q.faults (k cloud).faults still line x.says;
  }

-- ---- lines

module _ (s : Setting) (u : UserId) (k : ℕ → Cloud) (In : ℕ → List ℕ → Type 0) (prem : Premises s u k In) (vs : List FileVersion) where
  some_job : (job : ℕ) → 1 ≤ job → job ≤ length vs → (job - 1) < length vs
  some_job job one few = omega (arith, one, few)

  all_lanes : (c : ℕ) → Contains (range_with_len 0 s.shape.n) c → c < s.shape.n
  all_lanes c has = let h = in_range 0 s.shape.n c has in omega (arith, h)

  module _ (old : Vault) (answers : List Line) (moments : List Moment) (new : Vault) (calm : CalmPeers s u k In old.peers) (still : Still s.shape.n old.peers new.peers) (brings : Brings s.shape old.jobs vs) where
    calm_same : new.peers ≡ old.peers → CalmPeers s u k In new.peers
    calm_same e = subst (CalmPeers s u k In) (sym e) calm

    pub step_calm : (event : Event) → FitsEvent s.shape (length vs) event → is_arm event ≡ false → VStep s old event answers moments new → CalmPeers s u k In new.peers
    step_calm (events.Upload user path version bytes) fits arms x = calm_same x.2
    step_calm (events.Step job lane) fits arms x = calm_lane s u k In prem vs job lane.0 fits.1 old answers moments new calm still brings (lanes.request_at (lanes_of old.jobs job) lane.0) x
    step_calm (events.Lose job lane) fits arms x = calm_same (ap (λ (v : Vault). v.peers) x.2)
    step_calm (events.Drop job lane) fits arms x = calm_drop s u k In prem vs job lane.0 fits.1 old answers moments new calm still brings (lanes.request_at (lanes_of old.jobs job) lane.0) x
    step_calm (events.Finish job) fits arms x = calm_finish s u k In prem vs job (range_with_len 0 s.shape.n) all_lanes old x.0 moments new x.1 calm still
    step_calm (events.Get user path version clouds) fits arms x = calm_same (get_same s u k In prem user path version clouds fits.1.within old.peers new.peers x.0 calm still x.1)
    step_calm (events.Arm cloud calls keep) fits arms x = absurd (let no : true ≡ false = arms in cc)
    step_calm (events.Restart cloud) fits arms x = calm_restart s u k In prem cloud.0 fits old.peers new.peers x.0 calm still x.1
    step_calm (events.List user cloud) fits arms x = calm_list s u k In prem cloud.0 fits user None old.peers x.0 x.1 new.peers x.2 calm still
    step_calm (events.Replace cloud) fits arms x = calm_replace s u k In prem cloud.0 fits old.peers new.peers x.0 calm x.1
    step_calm (events.Rebuild user target from) fits arms x = calm_rebuild s u k In prem target.0 fits.0 from fits.1.0.within user old.peers answers moments new.peers x.0 calm still
    step_calm (events.Delete user path version cloud) fits arms x = calm_delete s u k In prem cloud.0 fits.1 user path version old.peers answers moments new.peers x.0 calm still

    -- another user's line is nothing to the user's own session
    both : own_peers u k new.peers ≡ own_peers u k old.peers → own_jobs u new.jobs ≡ own_jobs u old.jobs → own_vault u k new ≡ own_vault u k old
    both peers jobs = λ i. record { peers = peers i; jobs = jobs i }

    pub step_other : (event : Event) → FitsEvent s.shape (length vs) event → is_own u vs event ≡ false → names_none event ≡ false → VStep s old event answers moments new → own_vault u k new ≡ own_vault u k old
    step_other (events.Upload user path version bytes) fits other named x =
        both (ap (own_peers u k) x.2) (ap (own_jobs u) x.3 ∙ other_job_more u old.jobs (new_job s (version_of user path version bytes)) other)
    step_other (events.Step job lane) fits other named x =
        other_lane s u k In prem vs job lane.0 fits.1 old answers moments new calm still brings other (some_job job fits.0.0 fits.0.1) (lanes.request_at (lanes_of old.jobs job) lane.0) refl x
    step_other (events.Lose job lane) fits other named x = ap (own_vault u k) x.2
    step_other (events.Drop job lane) fits other named x =
        other_drop s u k In prem vs job lane.0 fits.1 old answers moments new calm still brings other (some_job job fits.0.0 fits.0.1) (lanes.request_at (lanes_of old.jobs job) lane.0) refl x
    step_other (events.Finish job) fits other named x =
        other_finish s u k In prem vs job other (some_job job fits.0 fits.1) (range_with_len 0 s.shape.n) all_lanes old x.0 moments new x.1 calm still brings
    step_other (events.Get user path version clouds) fits other named x =
        both (ap (own_peers u k) (get_same s u k In prem user path version clouds fits.1.within old.peers new.peers x.0 calm still x.1)) (ap (own_jobs u) x.4)
    step_other (events.Arm cloud calls keep) fits other named x = absurd (let no : true ≡ false = named in cc)
    step_other (events.Restart cloud) fits other named x = absurd (let no : true ≡ false = named in cc)
    step_other (events.List user cloud) fits other named x =
        both (other_list s u k In prem cloud.0 fits user (other_user user u other) None old.peers x.0 x.1 new.peers x.2 calm still) (ap (own_jobs u) x.5)
    step_other (events.Replace cloud) fits other named x = absurd (let no : true ≡ false = named in cc)
    step_other (events.Rebuild user target from) fits other named x =
        both (other_rebuild s u k In prem target.0 fits.0 from fits.1.0.within user old.peers answers moments new.peers x.0 calm still (other_user user u other)) (ap (own_jobs u) x.1)
    step_other (events.Delete user path version cloud) fits other named x =
        both (other_delete s u k In prem cloud.0 fits.1 user (other_user user u other) path version old.peers answers moments new.peers x.0 calm still) (ap (own_jobs u) x.1)

    -- a line that names no user does the same there
    pub step_none : (event : Event) → FitsEvent s.shape (length vs) event → names_none event ≡ true → is_arm event ≡ false → VStep s old event answers moments new
        → VStep s (own_vault u k old) event (none_answers u event answers new) (map (own_moment u k) moments) (own_vault u k new)
    step_none (events.Upload user path version bytes) fits none arms x = absurd (let no : false ≡ true = none in cc)
    step_none (events.Step job lane) fits none arms x = absurd (let no : false ≡ true = none in cc)
    step_none (events.Lose job lane) fits none arms x = absurd (let no : false ≡ true = none in cc)
    step_none (events.Drop job lane) fits none arms x = absurd (let no : false ≡ true = none in cc)
    step_none (events.Finish job) fits none arms x = absurd (let no : false ≡ true = none in cc)
    step_none (events.Get user path version clouds) fits none arms x = absurd (let no : false ≡ true = none in cc)
    step_none (events.Arm cloud calls keep) fits none arms x = absurd (let no : true ≡ false = arms in cc)
    step_none (events.Restart cloud) fits none arms x = (
      lines.Restarted cloud (counted (commands_of u (new.peers cloud.0).list)),
      record {
        goes = own_restart s u k In prem cloud.0 fits x.0 (old.peers cloud.0) (new.peers cloud.0) (calm.each cloud.0).pending (still cloud.0 fits) x.1.goes;
        others = λ c ne. ap (own_peer u (k c)) (x.1.others c ne);
      },
      refl,
      ap (map (own_moment u k)) x.3,
      ap (own_jobs u) x.4,
    )
    step_none (events.List user cloud) fits none arms x = absurd (let no : false ≡ true = none in cc)
    step_none (events.Replace cloud) fits none arms x = (
      x.0,
      record {
        goes = own_replace s u k In prem cloud.0 fits x.0 (old.peers cloud.0) (new.peers cloud.0) (still cloud.0 fits) x.1.goes;
        others = λ c ne. ap (own_peer u (k c)) (x.1.others c ne);
      },
      x.2,
      ap (map (own_moment u k)) x.3,
      ap (own_jobs u) x.4,
    )
    step_none (events.Rebuild user target from) fits none arms x = absurd (let no : false ≡ true = none in cc)
    step_none (events.Delete user path version cloud) fits none arms x = absurd (let no : false ≡ true = none in cc)

    -- ---- the user's own lines

    own_upload : (path : List ℕ) (version : Version) (bytes : List ℕ) → VStep s old (events.Upload u path version bytes) answers moments new
        → VStep s (own_vault u k old) (events.Upload u path version bytes) (map (own_line u vs) answers) (map (own_moment u k) moments) (own_vault u k new)
    own_upload path version bytes x = (
      ap (map (own_line u vs)) x.0 ∙ ap (λ (n : ℕ). lines.Job n ∷ []) (new_number u vs old.jobs brings.those),
      ap (map (own_moment u k)) x.1,
      ap (own_peers u k) x.2,
      ap (own_jobs u) x.3 ∙ own_job_more u old.jobs (new_job s (version_of u path version bytes)) (eq-eqb u.0 u.0 refl),
    )

    lose_same : (job cloud : ℕ) (request : Option Request) → map (own_line u vs) (lose_lines job cloud request) ≡ lose_lines (own_job u vs job) cloud request
    lose_same job cloud None = refl
    lose_same job cloud (Some request) = refl

    own_lose : (job : ℕ) (lane : CloudNo) → is_own_job u vs job ≡ true → VStep s old (events.Lose job lane) answers moments new
        → VStep s (own_vault u k old) (events.Lose (own_job u vs job) lane) (map (own_line u vs) answers) (map (own_moment u k) moments) (own_vault u k new)
    own_lose job lane own x =
        let e = own_lanes_by u vs old.jobs job brings.those own in (
          ap (map (own_line u vs)) x.0 ∙ lose_same job lane.0 (lanes.request_at (lanes_of old.jobs job) lane.0)
              ∙ ap (λ (views : List LaneView). lose_lines (own_job u vs job) lane.0 (lanes.request_at views lane.0)) (sym e),
          ap (map (own_moment u k)) x.1,
          ap (own_vault u k) x.2,
        )

    module _ (known : Known In moments) where
      own_step : (job : ℕ) (lane : CloudNo) → lane.0 < s.shape.n → is_own_job u vs job ≡ true → VStep s old (events.Step job lane) answers moments new
          → VStep s (own_vault u k old) (events.Step (own_job u vs job) lane) (map (own_line u vs) answers) (map (own_moment u k) moments) (own_vault u k new)
      own_step job lane below own x =
          let e = own_lanes_by u vs old.jobs job brings.those own in
          subst (λ (views : List LaneView). LaneStep s (own_job u vs job) lane.0 (lanes.request_at views lane.0) (own_vault u k old) (map (own_line u vs) answers) (map (own_moment u k) moments) (own_vault u k new)) (sym e)
          (own_lane s u k In prem vs job lane.0 below old answers moments new calm still brings own known (lanes.request_at (lanes_of old.jobs job) lane.0) refl x)

      own_dropped : (job : ℕ) (lane : CloudNo) → lane.0 < s.shape.n → is_own_job u vs job ≡ true → VStep s old (events.Drop job lane) answers moments new
          → VStep s (own_vault u k old) (events.Drop (own_job u vs job) lane) (map (own_line u vs) answers) (map (own_moment u k) moments) (own_vault u k new)
      own_dropped job lane below own x =
          let e = own_lanes_by u vs old.jobs job brings.those own in
          subst (λ (views : List LaneView). DropStep s (own_job u vs job) lane.0 (lanes.request_at views lane.0) (own_vault u k old) (map (own_line u vs) answers) (map (own_moment u k) moments) (own_vault u k new)) (sym e)
          (own_drop s u k In prem vs job lane.0 below old answers moments new calm still brings own known (lanes.request_at (lanes_of old.jobs job) lane.0) refl x)

      own_finished : (job : ℕ) → is_own_job u vs job ≡ true → VStep s old (events.Finish job) answers moments new
          → VStep s (own_vault u k old) (events.Finish (own_job u vs job)) (map (own_line u vs) answers) (map (own_moment u k) moments) (own_vault u k new)
      own_finished job own x =
          let e = own_lanes_by u vs new.jobs job ((brings_step s old (events.Finish job) answers moments new vs x brings).those ∙ append-nil vs) own in (
            map (own_line u vs) x.0,
            own_finish s u k In prem vs job own (range_with_len 0 s.shape.n) all_lanes old x.0 moments new x.1 calm still brings known,
            ap (map (own_line u vs)) x.2 ∙ map-append (own_line u vs) x.0 (lines.End job (all_done (lanes_of new.jobs job)) ∷ [])
                ∙ ap (λ (views : List LaneView). map (own_line u vs) x.0 ++ lines.End (own_job u vs job) (all_done views) ∷ []) (sym e),
          )

      own_gets : (path : List ℕ) (version : Version) (clouds : List ℕ) → All (λ cloud. cloud < s.shape.n) clouds → VStep s old (events.Get u path version clouds) answers moments new
          → VStep s (own_vault u k old) (events.Get u path version clouds) (map (own_line u vs) answers) (map (own_moment u k) moments) (own_vault u k new)
      own_gets path version clouds within x = (
        x.0,
        own_get s u k In prem path version clouds within old.peers new.peers x.0 calm still (known_first In (record { peers = old.peers; event = None }) [] (subst (Known In) x.3 known)) x.1,
        ap (map (own_line u vs)) x.2 ∙ ap (λ (l : Line). l ∷ []) (get_line_same u vs x.1.result x.1.file x.0 x.1.line_is),
        ap (map (own_moment u k)) x.3,
        ap (own_jobs u) x.4,
      )

      own_listed : (cloud : CloudNo) → cloud.0 < s.shape.n → VStep s old (events.List u cloud) answers moments new
          → VStep s (own_vault u k old) (events.List u cloud) (map (own_line u vs) answers) (map (own_moment u k) moments) (own_vault u k new)
      own_listed cloud below x = (
        map (own_turn u k) x.0,
        x.1,
        own_list s u k In prem cloud.0 below None old.peers x.0 x.1 new.peers x.2 calm still (subst (Known In) x.4 known),
        ap (map (own_line u vs)) x.3 ∙ list_lines_same u vs u cloud.0 x.1,
        ap (map (own_moment u k)) x.4 ∙ own_moments u k cloud.0 x.0,
        ap (own_jobs u) x.5,
      )

      pub step_own : (event : Event) → FitsEvent s.shape (length vs) event → is_own u vs event ≡ true → VStep s old event answers moments new
          → VStep s (own_vault u k old) (own_event u vs event) (map (own_line u vs) answers) (map (own_moment u k) moments) (own_vault u k new)
      step_own (events.Upload user path version bytes) fits own x =
          let e = same_user user u own in
          subst (λ (w : UserId). VStep s old (events.Upload w path version bytes) answers moments new
          → VStep s (own_vault u k old) (events.Upload w path version bytes) (map (own_line u vs) answers) (map (own_moment u k) moments) (own_vault u k new)) (sym e) (own_upload path version bytes) x
      step_own (events.Step job lane) fits own x = own_step job lane fits.1 own x
      step_own (events.Lose job lane) fits own x = own_lose job lane own x
      step_own (events.Drop job lane) fits own x = own_dropped job lane fits.1 own x
      step_own (events.Finish job) fits own x = own_finished job own x
      step_own (events.Get user path version clouds) fits own x =
          let e = same_user user u own in
          subst (λ (w : UserId). VStep s old (events.Get w path version clouds) answers moments new
          → VStep s (own_vault u k old) (events.Get w path version clouds) (map (own_line u vs) answers) (map (own_moment u k) moments) (own_vault u k new)) (sym e) (own_gets path version clouds fits.1.within) x
      step_own (events.Arm cloud calls keep) fits own x = absurd (let no : false ≡ true = own in cc)
      step_own (events.Restart cloud) fits own x = absurd (let no : false ≡ true = own in cc)
      step_own (events.List user cloud) fits own x =
          let e = same_user user u own in
          subst (λ (w : UserId). VStep s old (events.List w cloud) answers moments new
          → VStep s (own_vault u k old) (events.List w cloud) (map (own_line u vs) answers) (map (own_moment u k) moments) (own_vault u k new)) (sym e) (own_listed cloud fits) x
      step_own (events.Replace cloud) fits own x = absurd (let no : false ≡ true = own in cc)
      step_own (events.Rebuild user target from) fits own x =
          let e = same_user user u own in
          subst (λ (w : UserId). VStep s old (events.Rebuild w target from) answers moments new
          → VStep s (own_vault u k old) (events.Rebuild w target from) (map (own_line u vs) answers) (map (own_moment u k) moments) (own_vault u k new)) (sym e)
          (λ y. (own_rebuild s u k In prem target.0 fits.0 from fits.1.0.within old.peers answers moments new.peers y.0 calm still known vs, ap (own_jobs u) y.1)) x
      step_own (events.Delete user path version cloud) fits own x =
          let e = same_user user u own in
          subst (λ (w : UserId). VStep s old (events.Delete w path version cloud) answers moments new
          → VStep s (own_vault u k old) (events.Delete w path version cloud) (map (own_line u vs) answers) (map (own_moment u k) moments) (own_vault u k new)) (sym e)
          (λ y. (own_delete s u k In prem cloud.0 fits.1 vs path version old.peers answers moments new.peers y.0 calm still known, ap (own_jobs u) y.1)) x

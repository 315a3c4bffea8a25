-- A session of all users, line by line, as a user's own session has it.
use Rattle.std.proofs.Common.{◌≡◌, ℕ, ◌+◌, ◌-◌, ◌<◌, ◌≤◌, ◌^◌, Bool, true, false, cond, List, [], ◌∷◌, ◌++◌, length, map, refl, sym, ap, ◌∙◌, subst, arith, append-nil}
use Rattle.std.specs.Prelude.{◌||◌, min}
use Rattle.std.specs.List.{Contains}
use Rattle.std.proofs.lemmas.Bool.{or_parts}
use Rattle.std.proofs.lemmas.List.{length-append}
use Rattle.std.proofs.lemmas.List.Elements.{filter-append, Contains-append_left, Contains-append_right}
use Rattle.recipe.specs.CdBase.ids.UserId.{UserId}
use Rattle.recipe.specs.CdBase.shape.Shape.{Shape}
use Rattle.session_model.specs.CdEdges.Causes.{Rose}
use Rattle.session_model.specs.CdEdges.Disk.{Cloud}
use Rattle.session_model.proofs.UserDedup.Owned.{contains_here, contains_later}
use Rattle.session_model.specs.UploadJob.Upload.{FileVersion}
use Rattle.session_model.specs.Session.event.Event.{Event}
use Rattle.session_model.specs.Session.event.Event.TheVariants as events
use Rattle.session_model.specs.Session.Spelling.{FitsEvent, IsTyped}
use Rattle.session_model.specs.Session.Scripts.{AreLines, jobs_after}
use Rattle.session_model.specs.Transcript.line.Line.{Line}
use Rattle.session_model.specs.Vault.{Setting, Vault}
use Rattle.session_model.specs.Steps.{VStep, version_of}
use Rattle.session_model.specs.Run.{Answered, Turns, script_of, moments_of}
use Rattle.session_model.specs.Kept.{upload_of}
use Rattle.two_worlds.specs.Worlds.{is_version_of, own_versions, is_own_job, is_own, names_none, is_arm, own_event, mine_from, own_line, answers_from}
use Rattle.session_model.proofs.Jobs.{Brings, brings_step}
use Rattle.two_worlds.proofs.Numbers.{lines_again, job_again, job_below, own_job_some, own_few}
use Rattle.two_worlds.proofs.Own.{own_vault, own_moment, Still, Known, Premises, CalmPeers}
use Rattle.two_worlds.proofs.Lines.{none_answers, step_calm, step_other, step_none, step_own}
use Rattle.session_model.proofs.Counts.{keeps_step, keeps_turns}

or_true : (b : Bool) → (b || true) ≡ true
or_true true = refl
or_true false = refl

-- a line of a job is the user's where it is in the user's script
own_of : (b : Bool) → (b || false) ≡ true → b ≡ true
own_of true e = refl
own_of false e = e

-- ---- the user's own session

-- the line is the user's, or names no user
abbrev pub in_own : UserId → List FileVersion → Event → Bool
in_own u vs event = is_own u vs event || names_none event

abbrev pub own_answers : UserId → List FileVersion → Answered → List Line
own_answers u vs a = cond (is_own u vs a.event) (map (own_line u vs) a.answers) (none_answers u a.event a.answers a.after)

abbrev pub own_answered : UserId → (ℕ → Cloud) → List FileVersion → Answered → Answered
own_answered u k vs a = record {
  before = own_vault u k a.before;
  event = own_event u vs a.event;
  answers = own_answers u vs a;
  moments = map (own_moment u k) a.moments;
  after = own_vault u k a.after;
}

abbrev pub own_history : UserId → (ℕ → Cloud) → List FileVersion → List Answered → List Answered
own_history u k vs [] = []
own_history u k vs (a ∷ more) = cond (in_own u vs a.event) (own_answered u k vs a ∷ []) [] ++ own_history u k (vs ++ upload_of a.event) more

-- ---- its script

module _ (u : UserId) (k : ℕ → Cloud) where
  pub own_script : (vs : List FileVersion) (history : List Answered) → script_of (own_history u k vs history) ≡ mine_from u vs (script_of history)
  own_script vs [] = refl
  own_script vs (a ∷ more) = by_test (in_own u vs a.event) (own_script (vs ++ upload_of a.event) more)
    where
      by_test : (b : Bool) → script_of (own_history u k (vs ++ upload_of a.event) more) ≡ mine_from u (vs ++ upload_of a.event) (script_of more)
          → script_of (cond b (own_answered u k vs a ∷ []) [] ++ own_history u k (vs ++ upload_of a.event) more)
          ≡ cond b (own_event u vs a.event ∷ []) [] ++ mine_from u (vs ++ upload_of a.event) (script_of more)
      by_test true rest = ap (λ (l : List Event). own_event u vs a.event ∷ l) rest
      by_test false rest = rest

  -- a line that isn't in it uploads nothing of the user's
  none_uploaded : (vs : List FileVersion) (event : Event) → is_own u vs event ≡ false → own_versions u (upload_of event) ≡ []
  none_uploaded vs (events.Upload user path version bytes) other = ap (λ (b : Bool). cond b (version_of user path version bytes ∷ []) []) other
  none_uploaded vs (events.Step job lane) other = refl
  none_uploaded vs (events.Lose job lane) other = refl
  none_uploaded vs (events.Drop job lane) other = refl
  none_uploaded vs (events.Finish job) other = refl
  none_uploaded vs (events.Get user path version clouds) other = refl
  none_uploaded vs (events.List user cloud) other = refl
  none_uploaded vs (events.Arm cloud calls keep) other = refl
  none_uploaded vs (events.Restart cloud) other = refl
  none_uploaded vs (events.Replace cloud) other = refl
  none_uploaded vs (events.Rebuild user target from) other = refl
  none_uploaded vs (events.Delete user path version cloud) other = refl

  -- one that is uploads what the user uploads
  own_uploaded : (vs : List FileVersion) (event : Event) → is_own u vs event ≡ true → own_versions u (upload_of event) ≡ upload_of (own_event u vs event)
  own_uploaded vs (events.Upload user path version bytes) own = ap (λ (b : Bool). cond b (version_of user path version bytes ∷ []) []) own
  own_uploaded vs (events.Step job lane) own = refl
  own_uploaded vs (events.Lose job lane) own = refl
  own_uploaded vs (events.Drop job lane) own = refl
  own_uploaded vs (events.Finish job) own = refl
  own_uploaded vs (events.Get user path version clouds) own = refl
  own_uploaded vs (events.List user cloud) own = refl
  own_uploaded vs (events.Arm cloud calls keep) own = refl
  own_uploaded vs (events.Restart cloud) own = refl
  own_uploaded vs (events.Replace cloud) own = refl
  own_uploaded vs (events.Rebuild user target from) own = refl
  own_uploaded vs (events.Delete user path version cloud) own = refl

  -- nor does one that names no user upload anything
  none_there : (vs : List FileVersion) (event : Event) → names_none event ≡ true → upload_of (own_event u vs event) ≡ []
  none_there vs (events.Upload user path version bytes) none = absurd (let no : false ≡ true = none in cc)
  none_there vs (events.Step job lane) none = refl
  none_there vs (events.Lose job lane) none = refl
  none_there vs (events.Drop job lane) none = refl
  none_there vs (events.Finish job) none = refl
  none_there vs (events.Get user path version clouds) none = refl
  none_there vs (events.List user cloud) none = refl
  none_there vs (events.Arm cloud calls keep) none = refl
  none_there vs (events.Restart cloud) none = refl
  none_there vs (events.Replace cloud) none = refl
  none_there vs (events.Rebuild user target from) none = refl
  none_there vs (events.Delete user path version cloud) none = refl

  versions_more : (vs : List FileVersion) (event : Event) → own_versions u (vs ++ upload_of event) ≡ own_versions u vs ++ own_versions u (upload_of event)
  versions_more vs event = filter-append (is_version_of u) vs (upload_of event)

  pub versions_same : (vs : List FileVersion) (event : Event) → is_own u vs event ≡ false → own_versions u (vs ++ upload_of event) ≡ own_versions u vs
  versions_same vs event other = versions_more vs event ∙ ap (λ (l : List FileVersion). own_versions u vs ++ l) (none_uploaded vs event other) ∙ append-nil (own_versions u vs)

  pub versions_on : (vs : List FileVersion) (event : Event) → in_own u vs event ≡ true → own_versions u (vs ++ upload_of event) ≡ own_versions u vs ++ upload_of (own_event u vs event)
  versions_on vs event inside = by_own (is_own u vs event) refl
    where
      by_own : (b : Bool) → is_own u vs event ≡ b → own_versions u (vs ++ upload_of event) ≡ own_versions u vs ++ upload_of (own_event u vs event)
      by_own true own = versions_more vs event ∙ ap (λ (l : List FileVersion). own_versions u vs ++ l) (own_uploaded vs event own)
      by_own false other =
          let none : names_none event ≡ true = (let e : (false || names_none event) ≡ true = subst (λ (b : Bool). (b || names_none event) ≡ true) other inside in e) in
          versions_same vs event other ∙ sym (append-nil (own_versions u vs)) ∙ ap (λ (l : List FileVersion). own_versions u vs ++ l) (sym (none_there vs event none))

  -- ---- its ranges

  count_on : (vs : List FileVersion) (event : Event) → jobs_after (length vs) event ≡ length (vs ++ upload_of event)
  count_on vs (events.Upload user path version bytes) = sym (length-append vs (version_of user path version bytes ∷ []))
  count_on vs (events.Step job lane) = ap (λ (l : List FileVersion). length l) (sym (append-nil vs))
  count_on vs (events.Lose job lane) = ap (λ (l : List FileVersion). length l) (sym (append-nil vs))
  count_on vs (events.Drop job lane) = ap (λ (l : List FileVersion). length l) (sym (append-nil vs))
  count_on vs (events.Finish job) = ap (λ (l : List FileVersion). length l) (sym (append-nil vs))
  count_on vs (events.Get user path version clouds) = ap (λ (l : List FileVersion). length l) (sym (append-nil vs))
  count_on vs (events.List user cloud) = ap (λ (l : List FileVersion). length l) (sym (append-nil vs))
  count_on vs (events.Arm cloud calls keep) = ap (λ (l : List FileVersion). length l) (sym (append-nil vs))
  count_on vs (events.Restart cloud) = ap (λ (l : List FileVersion). length l) (sym (append-nil vs))
  count_on vs (events.Replace cloud) = ap (λ (l : List FileVersion). length l) (sym (append-nil vs))
  count_on vs (events.Rebuild user target from) = ap (λ (l : List FileVersion). length l) (sym (append-nil vs))
  count_on vs (events.Delete user path version cloud) = ap (λ (l : List FileVersion). length l) (sym (append-nil vs))

  own_fits : (shape : Shape) (vs : List FileVersion) (event : Event) → in_own u vs event ≡ true → FitsEvent shape (length vs) event → FitsEvent shape (length (own_versions u vs)) (own_event u vs event)
  own_fits shape vs (events.Upload user path version bytes) inside fits =
      let few = own_few u vs in let allowed = fits.allowed in record { allowed = omega (arith, few, allowed); named = fits.named; few = fits.few }
  own_fits shape vs (events.Step job lane) inside fits = ((own_job_some u vs job, job_below u vs job (own_of (is_own_job u vs job) inside)), fits.1)
  own_fits shape vs (events.Lose job lane) inside fits = ((own_job_some u vs job, job_below u vs job (own_of (is_own_job u vs job) inside)), fits.1)
  own_fits shape vs (events.Drop job lane) inside fits = ((own_job_some u vs job, job_below u vs job (own_of (is_own_job u vs job) inside)), fits.1)
  own_fits shape vs (events.Finish job) inside fits = (own_job_some u vs job, job_below u vs job (own_of (is_own_job u vs job) inside))
  own_fits shape vs (events.Get user path version clouds) inside fits = fits
  own_fits shape vs (events.List user cloud) inside fits = fits
  own_fits shape vs (events.Arm cloud calls keep) inside fits = fits
  own_fits shape vs (events.Restart cloud) inside fits = fits
  own_fits shape vs (events.Replace cloud) inside fits = fits
  own_fits shape vs (events.Rebuild user target from) inside fits = fits
  own_fits shape vs (events.Delete user path version cloud) inside fits = fits

  own_typed : (vs : List FileVersion) (event : Event) → IsTyped event → IsTyped (own_event u vs event)
  own_typed vs (events.Upload user path version bytes) typed = typed
  own_typed vs (events.Step job lane) typed = typed
  own_typed vs (events.Lose job lane) typed = typed
  own_typed vs (events.Drop job lane) typed = typed
  own_typed vs (events.Finish job) typed = typed
  own_typed vs (events.Get user path version clouds) typed = typed
  own_typed vs (events.List user cloud) typed = typed
  own_typed vs (events.Arm cloud calls keep) typed = typed
  own_typed vs (events.Restart cloud) typed = typed
  own_typed vs (events.Replace cloud) typed = typed
  own_typed vs (events.Rebuild user target from) typed = typed
  own_typed vs (events.Delete user path version cloud) typed = typed

  pub own_ranges : (shape : Shape) (vs : List FileVersion) (script : List Event) → AreLines shape (length vs) script → AreLines shape (length (own_versions u vs)) (mine_from u vs script)
  own_ranges shape vs [] lines = tt
  own_ranges shape vs (event ∷ script) lines =
      by_test (in_own u vs event) refl (own_ranges shape (vs ++ upload_of event) script (subst (λ (n : ℕ). AreLines shape n script) (count_on vs event) lines.2))
    where
      by_test : (b : Bool) → in_own u vs event ≡ b → AreLines shape (length (own_versions u (vs ++ upload_of event))) (mine_from u (vs ++ upload_of event) script)
          → AreLines shape (length (own_versions u vs)) (cond b (own_event u vs event ∷ []) [] ++ mine_from u (vs ++ upload_of event) script)
      by_test true inside rest = (
        own_fits shape vs event inside lines.0,
        own_typed vs event lines.1,
        subst (λ (n : ℕ). AreLines shape n (mine_from u (vs ++ upload_of event) script))
            (ap (λ (l : List FileVersion). length l) (versions_on vs event inside) ∙ sym (count_on (own_versions u vs) (own_event u vs event))) rest,
      )
      by_test false outside rest =
          subst (λ (l : List FileVersion). AreLines shape (length l) (mine_from u (vs ++ upload_of event) script)) (versions_same vs event (or_parts (is_own u vs event) (names_none event) outside).0) rest

  -- ---- its answers

  own_again : (vs : List FileVersion) (event : Event) → is_own u vs event ≡ true → is_own u (own_versions u vs) (own_event u vs event) ≡ true
  own_again vs (events.Upload user path version bytes) own = own
  own_again vs (events.Step job lane) own = job_again u vs job own
  own_again vs (events.Lose job lane) own = job_again u vs job own
  own_again vs (events.Drop job lane) own = job_again u vs job own
  own_again vs (events.Finish job) own = job_again u vs job own
  own_again vs (events.Get user path version clouds) own = own
  own_again vs (events.List user cloud) own = own
  own_again vs (events.Arm cloud calls keep) own = own
  own_again vs (events.Restart cloud) own = own
  own_again vs (events.Replace cloud) own = own
  own_again vs (events.Rebuild user target from) own = own
  own_again vs (events.Delete user path version cloud) own = own

  none_again : (vs ws : List FileVersion) (event : Event) → names_none event ≡ true → (is_own u vs event ≡ false) × (is_own u ws (own_event u vs event) ≡ false)
  none_again vs ws (events.Upload user path version bytes) none = absurd (let no : false ≡ true = none in cc)
  none_again vs ws (events.Step job lane) none = absurd (let no : false ≡ true = none in cc)
  none_again vs ws (events.Lose job lane) none = absurd (let no : false ≡ true = none in cc)
  none_again vs ws (events.Drop job lane) none = absurd (let no : false ≡ true = none in cc)
  none_again vs ws (events.Finish job) none = absurd (let no : false ≡ true = none in cc)
  none_again vs ws (events.Get user path version clouds) none = absurd (let no : false ≡ true = none in cc)
  none_again vs ws (events.List user cloud) none = absurd (let no : false ≡ true = none in cc)
  none_again vs ws (events.Arm cloud calls keep) none = (refl, refl)
  none_again vs ws (events.Restart cloud) none = (refl, refl)
  none_again vs ws (events.Replace cloud) none = (refl, refl)
  none_again vs ws (events.Rebuild user target from) none = absurd (let no : false ≡ true = none in cc)
  none_again vs ws (events.Delete user path version cloud) none = absurd (let no : false ≡ true = none in cc)

  pub same_replys : (vs : List FileVersion) (history : List Answered) → answers_from u (own_versions u vs) (own_history u k vs history) ≡ answers_from u vs history
  same_replys vs [] = refl
  same_replys vs (a ∷ more) = by_test (is_own u vs a.event) refl (names_none a.event) refl (same_replys (vs ++ upload_of a.event) more)
    where
      by_test : (b : Bool) → is_own u vs a.event ≡ b → (d : Bool) → names_none a.event ≡ d
          → answers_from u (own_versions u (vs ++ upload_of a.event)) (own_history u k (vs ++ upload_of a.event) more) ≡ answers_from u (vs ++ upload_of a.event) more
          → answers_from u (own_versions u vs) (cond (b || d) (own_answered u k vs a ∷ []) [] ++ own_history u k (vs ++ upload_of a.event) more)
          ≡ cond b (map (own_line u vs) a.answers) [] ++ answers_from u (vs ++ upload_of a.event) more
      by_test true own d none rest =
          let inside : in_own u vs a.event ≡ true = ap (λ (b : Bool). b || names_none a.event) own in
          let here : cond (is_own u (own_versions u vs) (own_event u vs a.event)) (map (own_line u (own_versions u vs)) (own_answers u vs a)) [] ≡ map (own_line u vs) a.answers =
          ap (λ (b : Bool). cond b (map (own_line u (own_versions u vs)) (own_answers u vs a)) []) (own_again vs a.event own)
          ∙ ap (λ (b : Bool). map (own_line u (own_versions u vs)) (cond b (map (own_line u vs) a.answers) (none_answers u a.event a.answers a.after))) own
          ∙ lines_again u vs a.answers in
          ap (λ (l : List Line). l ++ answers_from u (own_versions u vs ++ upload_of (own_event u vs a.event)) (own_history u k (vs ++ upload_of a.event) more)) here
          ∙ ap (λ (l : List FileVersion). map (own_line u vs) a.answers ++ answers_from u l (own_history u k (vs ++ upload_of a.event) more)) (sym (versions_on vs a.event inside))
          ∙ ap (λ (l : List Line). map (own_line u vs) a.answers ++ l) rest
      by_test false other true none rest =
          let inside : in_own u vs a.event ≡ true = ap (λ (b : Bool). is_own u vs a.event || b) none ∙ or_true (is_own u vs a.event) in
          ap (λ (b : Bool). cond b (map (own_line u (own_versions u vs)) (own_answers u vs a)) [] ++ answers_from u (own_versions u vs ++ upload_of (own_event u vs a.event)) (own_history u k (vs ++ upload_of a.event) more))
          (none_again vs (own_versions u vs) a.event none).1
          ∙ ap (λ (l : List FileVersion). answers_from u l (own_history u k (vs ++ upload_of a.event) more)) (sym (versions_on vs a.event inside))
          ∙ rest
      by_test false other false none rest =
          ap (λ (l : List FileVersion). answers_from u l (own_history u k (vs ++ upload_of a.event) more)) (sym (versions_same vs a.event other)) ∙ rest

-- ---- the lines in turn

same_event : (u : UserId) (vs : List FileVersion) (e : Event) → names_none e ≡ true → e ≡ own_event u vs e
same_event u vs (events.Upload user path version bytes) n = refl
same_event u vs (events.Step job lane) n = absurd (let no : false ≡ true = n in cc)
same_event u vs (events.Lose job lane) n = absurd (let no : false ≡ true = n in cc)
same_event u vs (events.Drop job lane) n = absurd (let no : false ≡ true = n in cc)
same_event u vs (events.Finish job) n = absurd (let no : false ≡ true = n in cc)
same_event u vs (events.Get user path version clouds) n = refl
same_event u vs (events.List user cloud) n = refl
same_event u vs (events.Arm cloud calls keep) n = refl
same_event u vs (events.Restart cloud) n = refl
same_event u vs (events.Replace cloud) n = refl
same_event u vs (events.Rebuild user target from) n = refl
same_event u vs (events.Delete user path version cloud) n = refl

-- no count rises in any of the lines
abbrev pub AllStill : ℕ → List Answered → Type 0
AllStill n [] = Unit {0}
AllStill n (a ∷ more) = Still n a.before.peers a.after.peers × AllStill n more

-- none of them arms a cloud
abbrev pub NoneArm : List Event → Type 0
NoneArm script = (event : Event) → Contains script event → is_arm event ≡ false

module _ (s : Setting) (u : UserId) (k : ℕ → Cloud) (In : ℕ → List ℕ → Type 0) (prem : Premises s u k In) where
  pub own_turns : (vs : List FileVersion) (history : List Answered) (old new : Vault) → Turns s old history new → CalmPeers s u k In old.peers → Brings s.shape old.jobs vs
      → AreLines s.shape (length vs) (script_of history) → AllStill s.shape.n history → Known In (moments_of history) → NoneArm (script_of history)
      → Turns s (own_vault u k old) (own_history u k vs history) (own_vault u k new)
  own_turns vs [] old new turns calm brings lines still known arms = ap (own_vault u k) turns
  own_turns vs (a ∷ more) old new turns calm brings lines still known arms =
      by_test (is_own u vs a.event) refl (names_none a.event) refl (own_turns (vs ++ upload_of a.event) more a.after new turns.2
      (step_calm s u k In prem vs old a.answers a.moments a.after calm (subst (λ (v : Vault). Still s.shape.n v.peers a.after.peers) turns.0 still.0) brings a.event lines.0 (arms a.event (contains_here a.event (script_of more))) turns.1)
      (brings_step s old a.event a.answers a.moments a.after vs turns.1 brings)
      (subst (λ (n : ℕ). AreLines s.shape n (script_of more)) (count_on u k vs a.event) lines.2)
      still.1
      (λ m has. known m (Contains-append_right a.moments (moments_of more) m has))
      (λ event has. arms event (contains_later a.event (script_of more) event has)))
    where
      here : VStep s old a.event a.answers a.moments a.after
      here = turns.1

      quiet_here : Still s.shape.n old.peers a.after.peers
      quiet_here = subst (λ (v : Vault). Still s.shape.n v.peers a.after.peers) turns.0 still.0

      known_here : Known In a.moments
      known_here m has = known m (Contains-append_left a.moments (moments_of more) m has)

      by_test : (b : Bool) → is_own u vs a.event ≡ b → (d : Bool) → names_none a.event ≡ d
          → Turns s (own_vault u k a.after) (own_history u k (vs ++ upload_of a.event) more) (own_vault u k new)
          → Turns s (own_vault u k old) (cond (b || d) (record {
            before = own_vault u k a.before;
            event = own_event u vs a.event;
            answers = cond b (map (own_line u vs) a.answers) (none_answers u a.event a.answers a.after);
            moments = map (own_moment u k) a.moments;
            after = own_vault u k a.after;
          } ∷ []) [] ++ own_history u k (vs ++ upload_of a.event) more) (own_vault u k new)
      by_test true own d none rest =
          (ap (own_vault u k) turns.0, step_own s u k In prem vs old a.answers a.moments a.after calm quiet_here brings known_here a.event lines.0 own here, rest)
      by_test false other true none rest = (
        ap (own_vault u k) turns.0,
        subst (λ (e : Event). VStep s (own_vault u k old) e (none_answers u a.event a.answers a.after) (map (own_moment u k) a.moments) (own_vault u k a.after)) (same_event u vs a.event none)
            (step_none s u k In prem vs old a.answers a.moments a.after calm quiet_here brings a.event lines.0 none (arms a.event (contains_here a.event (script_of more))) here),
        rest,
      )
      by_test false other false none rest =
          subst (λ (v : Vault). Turns s v (own_history u k (vs ++ upload_of a.event) more) (own_vault u k new))
          (step_other s u k In prem vs old a.answers a.moments a.after calm quiet_here brings a.event lines.0 other none here) rest

-- ---- counts that don't rise over all lines don't rise in one

-- in each of these lines the cloud's count doesn't rise
abbrev pub OneStill : ℕ → List Answered → Type 0
OneStill c [] = Unit {0}
OneStill c (a ∷ more) = (Rose (a.before.peers c).faults (a.after.peers c).faults → ⊥) × OneStill c more

module _ (s : Setting) (c first : ℕ) where
  small : min first (2 ^ 64 - 1) < 2 ^ 64
  small = omega arith

  small_next : min (first + 1) (2 ^ 64 - 1) < 2 ^ 64
  small_next = omega arith

  next_of : (before now : ℕ) → min first (2 ^ 64 - 1) ≤ before → Rose before now → min (first + 1) (2 ^ 64 - 1) ≤ now
  next_of before now least rose = omega (arith, least, rose)

  pub one_still : (history : List Answered) (old new : Vault) → Turns s old history new → min first (2 ^ 64 - 1) ≤ (old.peers c).faults → (Rose first (new.peers c).faults → ⊥) → OneStill c history
  one_still [] old new turns least still = tt
  one_still (a ∷ more) old new turns least still =
      let least_here = subst (λ (v : Vault). min first (2 ^ 64 - 1) ≤ (v.peers c).faults) (sym turns.0) least in (
        (λ rose. still (keeps_turns (min (first + 1) (2 ^ 64 - 1)) small_next s c more a.after new turns.2 (next_of (a.before.peers c).faults (a.after.peers c).faults least_here rose))),
        one_still more a.after new turns.2 (keeps_step (min first (2 ^ 64 - 1)) small s c old a.event a.answers a.moments a.after turns.1 least) still,
      )

pub all_still : (n : ℕ) (history : List Answered) → ((c : ℕ) → c < n → OneStill c history) → AllStill n history
all_still n [] each = tt
all_still n (a ∷ more) each = ((λ c below. (each c below).0), all_still n more (λ c below. (each c below).1))

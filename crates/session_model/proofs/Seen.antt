-- What a cloud has between two lines it has at a moment of the lines behind, or in the end.
use Rattle.std.proofs.Common.{◌≡◌, ℕ, List, [], ◌∷◌, ◌++◌, map, Option, Some, None, Result, refl, sym, ap, ◌∙◌, subst, inl, inr, ◌⊎◌, append_assoc}
use Rattle.std.specs.Prelude.{MatchOption}
use Rattle.std.specs.List.{Contains}
use Rattle.std.proofs.lemmas.List.Elements.{Contains-append_left, Contains-append_right}
use Rattle.session.specs.CdBase.ids.Tag.{Tag}
use Rattle.session.specs.CdBase.ids.UserId.{UserId}
use Rattle.session.specs.CdBase.ids.Version.{Version}
use Rattle.rebuild.specs.Messages.request.Request.{Request}
use Rattle.subset_restore.specs.UserDedup.Exec.{Peer}
use Rattle.subset_restore.proofs.UserDedup.Owned.{contains_here}
use Rattle.subset_restore.specs.UserDedup.Cloud.{strings_in}
use Rattle.rebuild.specs.UploadJob.Lanes as lanes
use Rattle.rebuild.specs.LaneSteps.Runs.{LaneTurn, Progress, LaneRun}
use Rattle.session.specs.declared.event.Event.{Event}
use Rattle.session.specs.declared.event.Event.TheVariants as events
use Rattle.session.specs.Transcript.refusal.Refusal.{Refusal}
use Rattle.session.specs.Transcript.line.Line.{Line}
use Rattle.session_model.specs.Vault.{Setting, Vault, HasVaultExecuted, lanes_of}
use Rattle.session_model.specs.Steps.{Moment, quiet, moment_of, target_moments, LaneStep, DropStep, FinishLanes, ListRun, VStep}
use Rattle.session_model.specs.Run.{Answered, Turns, moments_of}
use Rattle.session_model.specs.Headline.{Begun, ComesTo, IsPartOf, moments_begun}

-- the first moment has the clouds as they were, or there is none and they stay
abbrev pub FirstIs : (ℕ → Peer) → List Moment → (ℕ → Peer) → Type 0
FirstIs old moments new = ((moments ≡ []) × (new ≡ old)) ⊎ ((m : Moment) × (rest : List Moment) × (moments ≡ m ∷ rest) × (m.peers ≡ old))

first_quiet : (old new : ℕ → Peer) (moments : List Moment) → moments ≡ quiet old → FirstIs old moments new
first_quiet old new moments e = inr (record { peers = old; event = None }, [], e, refl)

module _ (s : Setting) where
  first_run : (cloud : ℕ) (p : Progress) (old : ℕ → Peer) (turns : List (LaneTurn (ℕ → Peer))) (last : Progress) (mid : ℕ → Peer) (rest moments : List Moment) (new : ℕ → Peer) → LaneRun (HasVaultExecuted s cloud) p old turns last mid
      → FirstIs mid rest new → moments ≡ map (moment_of cloud) turns ++ rest → FirstIs old moments new
  first_run cloud p old [] last mid rest moments new run (inl x) e = inl (e ∙ x.0, x.1 ∙ run.2)
  first_run cloud p old [] last mid rest moments new run (inr x) e = inr (x.0, x.1, e ∙ x.2, x.3 ∙ run.2)
  first_run cloud p old (t ∷ turns) last mid rest moments new run first e = inr (moment_of cloud t, map (moment_of cloud) turns ++ rest, e, run.1)

  pub first_finish : (job : ℕ) (clouds : List ℕ) (old : Vault) (answers : List Line) (moments : List Moment) (new : Vault) → FinishLanes s job clouds old answers moments new → FirstIs old.peers moments new.peers
  first_finish job [] old answers moments new f = inl (f.1, ap (λ (v : Vault). v.peers) f.2)
  first_finish job (cloud ∷ clouds) old answers moments new f = first_run cloud _ old.peers f.0 f.1 f.3.peers f.6 moments new.peers f.7 (first_finish job clouds f.3 f.5 f.6 new f.13) f.12

  first_lane : (job cloud : ℕ) (request : Option Request) (old : Vault) (answers : List Line) (moments : List Moment) (new : Vault) → LaneStep s job cloud request old answers moments new → FirstIs old.peers moments new.peers
  first_lane job cloud None old answers moments new x = first_quiet old.peers new.peers moments x.1
  first_lane job cloud (Some request) old answers moments new x = inr (_, [], x.4, refl)

  first_drop : (job cloud : ℕ) (request : Option Request) (old : Vault) (answers : List Line) (moments : List Moment) (new : Vault) → DropStep s job cloud request old answers moments new → FirstIs old.peers moments new.peers
  first_drop job cloud None old answers moments new x = first_quiet old.peers new.peers moments x.1
  first_drop job cloud (Some request) old answers moments new x = inr (_, [], x.2, refl)

  first_list : (user : UserId) (cloud : ℕ) (above : Option (Tag × Version)) (old : ℕ → Peer) (turns : List (LaneTurn (ℕ → Peer))) (listed : Result (List (Tag × Version)) Refusal) (new : ℕ → Peer) (moments : List Moment)
      → ListRun s user cloud above old turns listed new → moments ≡ map (moment_of cloud) turns → FirstIs old moments new
  first_list user cloud above old [] listed new moments run e = absurd run
  first_list user cloud above old (t ∷ turns) listed new moments run e = inr (moment_of cloud t, map (moment_of cloud) turns, e, run.0)

  pub first_step : (old : Vault) (event : Event) (answers : List Line) (moments : List Moment) (new : Vault) → VStep s old event answers moments new → FirstIs old.peers moments new.peers
  first_step old (events.Upload user path version bytes) answers moments new x = first_quiet old.peers new.peers moments x.1
  first_step old (events.Step job lane) answers moments new x = first_lane job lane.0 (lanes.request_at (lanes_of old.jobs job) lane.0) old answers moments new x
  first_step old (events.Lose job lane) answers moments new x = first_quiet old.peers new.peers moments x.1
  first_step old (events.Drop job lane) answers moments new x = first_drop job lane.0 (lanes.request_at (lanes_of old.jobs job) lane.0) old answers moments new x
  first_step old (events.Finish job) answers moments new x = first_finish job _ old x.0 moments new x.1
  first_step old (events.Get user path version clouds) answers moments new x = first_quiet old.peers new.peers moments x.3
  first_step old (events.Arm cloud calls keep) answers moments new x = first_quiet old.peers new.peers moments x.2
  first_step old (events.Restart cloud) answers moments new x = first_quiet old.peers new.peers moments x.3
  first_step old (events.List user cloud) answers moments new x = first_list user cloud.0 None old.peers x.0 x.1 new.peers moments x.2 x.4
  first_step old (events.Replace cloud) answers moments new x = first_quiet old.peers new.peers moments x.3
  first_step old (events.Rebuild user target from) answers moments new x =
      inr (record { peers = old.peers; event = None }, target_moments old.peers target.0 x.0.turns (new.peers target.0), x.0.moments_are, refl)
  first_step old (events.Delete user path version cloud) answers moments new x = inr (_, [], x.0.5, refl)

-- ---- strings

-- the cloud has the string at one of the moments, or in the end
abbrev pub Seen : ℕ → List Moment → (ℕ → Peer) → List ℕ → Type 0
Seen c moments last string = ((m : Moment) × Contains moments m × Contains (strings_in (m.peers c).list) string) ⊎ Contains (strings_in (last c).list) string

pub seen_later : (c : ℕ) (moments more : List Moment) (last : ℕ → Peer) (string : List ℕ) → Seen c more last string → Seen c (moments ++ more) last string
seen_later c moments more last string (inl x) = inl (x.0, Contains-append_right moments more x.0 x.1, x.2)
seen_later c moments more last string (inr x) = inr x

pub seen_first : (c : ℕ) (old : ℕ → Peer) (moments : List Moment) (new : ℕ → Peer) (more : List Moment) (last : ℕ → Peer) (string : List ℕ) → FirstIs old moments new
    → (Contains (strings_in (new c).list) string → Seen c more last string) → Contains (strings_in (old c).list) string → Seen c (moments ++ more) last string
seen_first c old moments new more last string (inl x) after has = seen_later c moments more last string (after (subst (λ (f : ℕ → Peer). Contains (strings_in (f c).list) string) (sym x.1) has))
seen_first c old moments new more last string (inr x) after has =
    inl (x.0, Contains-append_left moments more x.0 (subst (λ (l : List Moment). Contains l x.0) (sym x.2) (contains_here x.0 x.1)), subst (λ (f : ℕ → Peer). Contains (strings_in (f c).list) string) (sym x.3) has)

module _ (s : Setting) (c : ℕ) (string : List ℕ) where
  part : (moments rest : List Moment) (old after last : ℕ → Peer) → FirstIs old (moments ++ rest) after → ComesTo rest after last → Contains (strings_in (old c).list) string → Seen c moments last string
  part [] [] old after last (inl x) comes has = inr (subst (λ (f : ℕ → Peer). Contains (strings_in (f c).list) string) (sym (comes ∙ x.1)) has)
  part [] [] old after last (inr x) comes has = absurd (let f : [] ≡ x.0 ∷ x.1 = x.2 in cc)
  part [] (m ∷ rest) old after last (inl x) comes has = absurd (let f : m ∷ rest ≡ [] = x.0 in cc)
  part [] (m ∷ rest) old after last (inr x) comes has =
      let same : m ≡ x.0 = (let f : m ∷ rest ≡ x.0 ∷ x.1 = x.2 in cc) in
      inr (subst (λ (f : ℕ → Peer). Contains (strings_in (f c).list) string) (sym (comes ∙ ap (λ (n : Moment). n.peers) same ∙ x.3)) has)
  part (m ∷ moments) rest old after last (inl x) comes has = absurd (let f : m ∷ (moments ++ rest) ≡ [] = x.0 in cc)
  part (m ∷ moments) rest old after last (inr x) comes has =
      let same : m ≡ x.0 = (let f : m ∷ (moments ++ rest) ≡ x.0 ∷ x.1 = x.2 in cc) in
      inl (m, contains_here m moments, subst (λ (f : ℕ → Peer). Contains (strings_in (f c).list) string) (sym (ap (λ (n : Moment). n.peers) same ∙ x.3)) has)

  seen_begun : (between : Vault) (begun : Option Begun) (last : ℕ → Peer) → MatchOption begun (last ≡ between.peers) (λ b. IsPartOf s between b last)
      → Contains (strings_in (between.peers c).list) string → Seen c (moments_begun begun) last string
  seen_begun between None last x has = inr (subst (λ (f : ℕ → Peer). Contains (strings_in (f c).list) string) (sym x) has)
  seen_begun between (Some b) last x has = part b.moments x.1 between.peers x.2.peers last (first_step s between b.event x.0 (b.moments ++ x.1) x.2 x.3) x.4 has

  pub seen_turns : (history : List Answered) (old between : Vault) (begun : Option Begun) (last : ℕ → Peer) → Turns s old history between → MatchOption begun (last ≡ between.peers) (λ b. IsPartOf s between b last)
      → Contains (strings_in (old.peers c).list) string → Seen c (moments_of history ++ moments_begun begun) last string
  seen_turns [] old between begun last t x has = seen_begun between begun last x (subst (λ (v : Vault). Contains (strings_in (v.peers c).list) string) (sym t) has)
  seen_turns (a ∷ more) old between begun last t x has =
      subst (λ (l : List Moment). Seen c l last string) (sym (append_assoc a.moments (moments_of more) (moments_begun begun)))
      (seen_first c old.peers a.moments a.after.peers (moments_of more ++ moments_begun begun) last string (first_step s old a.event a.answers a.moments a.after t.1) (seen_turns more a.after between begun last t.2 x) has)

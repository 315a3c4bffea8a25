-- Only an arm line arms a cloud.
use Rattle.std.proofs.Common.{◌≡◌, ℕ, Bool, true, false, Result, Ok, Err, sym, ap, ◌∙◌, subst, refl}
use Rattle.std.specs.Bool.{MatchBool}
use Rattle.std.specs.List.{Contains}
use Rattle.session.specs.CdEdges.Disk.{Cloud}
use Rattle.local_link.specs.CommitJournal.errors.OpenErr.{OpenErr}
use Rattle.local_link.specs.CommitJournal.errors.OpenErr.TheVariants as errors
use Rattle.subset_restore.specs.UserDedup.Exec.{Peer}
use Rattle.local_link.specs.ShareServer.Serving.{ReopensAs}
use Rattle.session.specs.declared.event.Event.{Event}
use Rattle.session.specs.declared.event.Event.TheVariants as events
use Rattle.session.specs.Transcript.line.Line.{Line}
use Rattle.session_model.specs.Vault.{Setting}
use Rattle.session_model.specs.Steps.{cloud_no, ReopensUntold, RestartStep}
use Rattle.session_model.specs.Headline.{Session, IsRun, script_in}
use Rattle.session_model.proofs.Lasting.{Lasting, lasts_over}

abbrev KeepsArmings : Peer → Peer → Type 0
KeepsArmings p q = q.armings ≡ p.armings

-- the event doesn't arm this cloud
abbrev ArmsNot : ℕ → Event → Type 0
ArmsNot c event = (calls keep : ℕ) → ¬ (event ≡ events.Arm (cloud_no c) calls keep)

reopened : (p q : Peer) (result : Result ℕ OpenErr) → ReopensAs true p q result → KeepsArmings p q
reopened p q (Ok commands) r = r.2
reopened p q (Err errors.Fault) r = r.2
reopened p q (Err (errors.NotBegun len)) r = ap (λ (x : Peer). x.armings) r.0
reopened p q (Err (errors.OtherStore found asked at)) r = absurd r
reopened p q (Err (errors.Damaged at byte)) r = absurd r

restarted : (s : Setting) (c : ℕ) (line : Line) (p q : Peer) → RestartStep s c line p q → KeepsArmings p q
restarted s c line p q r = by_told (s.told c) r.2
  where
    by_told : (b : Bool) → MatchBool b (ReopensAs true p q r.0) (ReopensUntold r.0 p q) → KeepsArmings p q
    by_told true x = reopened p q r.0 x
    by_told false x = x.counts.armings

armings_last : (s : Setting) (c : ℕ) → Lasting s c KeepsArmings (ArmsNot c)
armings_last s c = record {
  same = λ p q same. ap (λ (x : Peer). x.armings) same;
  on = λ p m q first second. second ∙ first;
  executes = λ p q request reply x. x.counts.armings;
  reads = λ p q x. x.1.armings;
  restarts = restarted s c;
  replaces = λ line p q x. x.armings;
  arms = λ calls keep p q not armed. absurd (not calls keep refl);
}

pub only_arms : (clouds : ℕ → Cloud) (run : Session) (cloud : ℕ) → IsRun clouds run → ((calls keep : ℕ) → ¬ Contains (script_in run) (events.Arm (cloud_no cloud) calls keep))
    → (run.last cloud).armings ≡ (clouds cloud).armings
only_arms clouds run cloud is none = lasts_over run cloud KeepsArmings (ArmsNot cloud) (armings_last run.setting cloud) clouds is
    (λ event has calls keep same. none calls keep (subst (λ (e : Event). Contains (script_in run) e) same has))

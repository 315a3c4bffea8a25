-- A told cloud whose count of faults didn't rise has no command pending.
use Rattle.std.proofs.Common.{◌≡◌, ℕ, ◌^◌, ◌<◌, ◌≤◌, Bool, true, false, Option, None, Result, Ok, Err, refl, sym, ap, ◌∙◌, subst, inl, inr, ◌⊎◌, arith}
use Rattle.std.specs.Prelude.{IsTrue, List, ◌∷◌, ◌++◌, [], IsSomeAnd}
use Rattle.std.specs.Bool.{MatchBool}
use Rattle.session.specs.CdEdges.Causes.{Rose}
use Rattle.session.specs.CdEdges.Disk.{Cloud}
use Rattle.local_link.specs.CommitJournal.errors.OpenErr.{OpenErr}
use Rattle.local_link.specs.CommitJournal.errors.OpenErr.TheVariants as errors
use Rattle.rebuild.specs.Messages.request.Request.{Request}
use Rattle.rebuild.specs.Messages.reply.Reply.{Reply}
use Rattle.subset_restore.specs.UserDedup.Exec.{Peer, Exec, ExecTold, ExecUntold, MaySettleAs, KeepsPeer, Settles}
use Rattle.subset_restore.specs.UserDedup.command.Command.{Command}
use Rattle.local_link.specs.ShareServer.Serving.{ReopensAs}
use Rattle.subset_restore.specs.RestoreJob.Asking.{MayRead}
use Rattle.session.specs.declared.event.Event.{Event}
use Rattle.session.specs.Transcript.line.Line.{Line}
use Rattle.session_model.specs.Vault.{Setting, served_at}
use Rattle.session_model.specs.Steps.{ReopensUntold, RestartStep, ReplaceStep}
use Rattle.session_model.specs.Headline.{Session, IsRun}
use Rattle.session_model.proofs.Counts.{replaced_count}
use Rattle.session_model.proofs.Faults.{rose_on, then_rose}
use Rattle.session_model.proofs.Lasting.{Lasting, lasts_over}

-- the count doesn't fall below its last value
abbrev GoesUp : ℕ → ℕ → Type 0
GoesUp before now = (f : ℕ) → f < 2 ^ 64 → f ≤ before → f ≤ now

-- the count goes up, and where nothing was pending nothing is, or it rose
abbrev KeepsSettled : Peer → Peer → Type 0
KeepsSettled p q = GoesUp p.faults q.faults × (p.pending ≡ None → ¬ Rose p.faults q.faults → q.pending ≡ None)

up : (before now : ℕ) → before ≤ now → GoesUp before now
up before now le f small below = omega (arith, le, below)

up_same : (before now : ℕ) → now ≡ before → GoesUp before now
up_same before now same f small below = omega (arith, same, below)

up_rose : (before now : ℕ) → Rose before now → GoesUp before now
up_rose before now rose f small below = omega (arith, small, rose, below)

joined : (p m q : Peer) → KeepsSettled p m → KeepsSettled m q → KeepsSettled p q
joined p m q first second = (
  λ f small below. second.0 f small (first.0 f small below),
  λ none still. second.1 (first.1 none (λ rose. still (rose_on p.faults m.faults q.faults second.0 rose))) (λ rose. still (then_rose p.faults m.faults q.faults first.0 rose)),
)

same_still : (p q : Peer) → q ≡ p → KeepsSettled p q
same_still p q same = (up_same p.faults q.faults (ap (λ (x : Peer). x.faults) same), λ none still. ap (λ (x : Peer). x.pending) same ∙ none)

reopened : (p q : Peer) (result : Result ℕ OpenErr) → ReopensAs true p q result → KeepsSettled p q
reopened p q (Ok commands) r = (up_same p.faults q.faults r.1, λ none still. r.0.pending)
reopened p q (Err errors.Fault) r = (up_rose p.faults q.faults r.1, λ none still. absurd (still r.1))
reopened p q (Err (errors.NotBegun len)) r = same_still p q r.0
reopened p q (Err (errors.OtherStore found asked at)) r = absurd r
reopened p q (Err (errors.Damaged at byte)) r = absurd r

module _ (s : Setting) (c : ℕ) (told : IsTrue (s.told c)) where
  executed : (p q : Peer) (request : Request) (reply : Reply) → Exec s.shape (s.told c) (served_at s c) p request reply q → KeepsSettled p q
  executed p q request reply x = (
    up p.faults q.faults x.counts.faults,
    λ none still. by_told (subst (λ (b : Bool). MatchBool b (ExecTold (served_at s c) p request reply q) (ExecUntold s.shape p request reply q)) told x.does) still,
  )
    where
      by_told : ExecTold (served_at s c) p request reply q → ¬ Rose p.faults q.faults → q.pending ≡ None
      by_told (inl answers) still = answers.pending
      by_told (inr fails) still = absurd (still fails.rose)

  restarted : (line : Line) (p q : Peer) → RestartStep s c line p q → KeepsSettled p q
  restarted line p q r = reopened p q r.0 (subst (λ (b : Bool). MatchBool b (ReopensAs true p q r.0) (ReopensUntold r.0 p q)) told r.2)

  read : (p q : Peer) → MayRead p q → KeepsSettled p q
  read p q x = (up p.faults q.faults x.1.faults, λ none still. by_case x.0 none)
    where
      by_case : KeepsPeer p q ⊎ Settles p q → p.pending ≡ None → q.pending ≡ None
      by_case (inl stays) none = stays.pending ∙ none
      by_case (inr settles) none = settles.pending

  replaced : (line : Line) (p q : Peer) → ReplaceStep s c line p q → KeepsSettled p q
  replaced line p q x = (by_case (replaced_count (s.told c) c p.faults q.faults line x.says), λ none still. x.pending)
    where
      by_case : (q.faults ≡ p.faults) ⊎ Rose p.faults q.faults → GoesUp p.faults q.faults
      by_case (inl same) = up_same p.faults q.faults same
      by_case (inr rose) = up_rose p.faults q.faults rose

  settled_lasts : Lasting s c KeepsSettled (λ (event : Event). Unit {0})
  settled_lasts = record {
    same = same_still;
    on = joined;
    executes = executed;
    reads = read;
    restarts = restarted;
    replaces = replaced;
    arms = λ calls keep p q may armed. (up_same p.faults q.faults armed.faults, λ none still. armed.stays.pending ∙ none);
  }

pub none_pending : (clouds : ℕ → Cloud) (run : Session) (cloud : ℕ) → IsRun clouds run → IsTrue (run.setting.told cloud) → ¬ Rose (clouds cloud).faults (run.last cloud).faults
    → (run.last cloud).pending ≡ None
none_pending clouds run cloud is told still =
    (lasts_over run cloud KeepsSettled (λ (event : Event). Unit {0}) (settled_lasts run.setting cloud told) clouds is (λ event has. tt)).1 refl still

-- with nothing pending a cloud has one list
pub only_list : (p : Peer) (list : List Command) → p.pending ≡ None → MaySettleAs p list → list ≡ p.list
only_list p list none (inl same) = same
only_list p list none (inr more) = absurd (subst (λ (o : Option Command). IsSomeAnd o (λ command. list ≡ p.list ++ command ∷ [])) none more)

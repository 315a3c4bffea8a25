use Rattle.std.proofs.Common.{◌≡◌, ◌-◌, ℕ, refl, sym, ◌∙◌, ap, subst}
use Rattle.journal_halves.specs.CdEdges.area.Area.TheVariants.{Journal}
use Rattle.commit_journal.specs.Turning as writer
use Rattle.journal_halves.specs.States.{begun_at}
use Rattle.journal_halves.specs.States as records
use Rattle.commit_journal.specs.declared.journal.Stage.TheVariants.{AtEnd}
use Rattle.commit_journal.specs.States.{JournalState, state_of}
use Rattle.commit_journal.proofs.Steps.{settled}
use Rattle.commit_journal.proofs.journal.Journal.settle.Goals as goal

pub returns-in_err-settle-clause-any_moment : goal.returns-in_err-settle-clause-any_moment
returns-in_err-settle-clause-any_moment g c told w next is = c.settle.ensures.any_moment told w next is.laid

pub returns-clause-any_moment : goal.returns-clause-any_moment
returns-clause-any_moment g c told w next is = c.settle.ensures.any_moment told w next is.laid

pub returns-clause-settled : goal.returns-clause-settled
returns-clause-settled g c told w next is =
    let number = c.args.cloud.0 in let before = state_of c.args.self.now in
    let store = (g.V.Shelf.cloud_at c.args.shelf.now number).now Journal in let last = (g.V.Shelf.cloud_at c.settle.new.shelf number).now Journal in
    let after : JournalState = record before { stage = AtEnd; start = before.next; left = 0; current = records.state_of c.begin.new.self; laid = writer.state_of c.settle.new.self } in
    settled before after store last w next c.used-used.result is (c.in_ok-settle.ensures.settled told w next is.laid) (c.settle.ensures.full told w next is.laid) c.used-used.ensures.value
    (c.begin.ensures ∙ ap (λ (h : ℕ). begun_at (1 - h) (c.used-used.result - 1)) c.half-half.ensures) refl

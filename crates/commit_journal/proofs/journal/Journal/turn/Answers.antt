use Rattle.std.proofs.Common.{◌≡◌, ◌-◌, ◌+◌, ◌<◌, ◌^◌, ℕ, length, refl, sym, ◌∙◌, ap, subst, arith, rules}
use Rattle.journal_halves.specs.CdEdges.area.Area.TheVariants.{Journal}
use Rattle.journal_halves.specs.JournalStart.start.Start.{Start}
use Rattle.journal_halves.specs.JournalStart.Spelling.{start_bytes, records_of}
use Rattle.journal_halves.proofs.JournalStart.Lengths.{second}
use Rattle.journal_halves.specs.Journals.{MayFollow}
use Rattle.commit_journal.specs.Turning as writer
use Rattle.commit_journal.specs.declared.journal.Stage.TheVariants.{Laying}
use Rattle.commit_journal.specs.States.{JournalState, state_of, next_start}
use Rattle.commit_journal.proofs.Steps.{stands_of, other_of, may_follow, turned}
use Rattle.commit_journal.proofs.journal.Journal.turn.Goals as goal

pub returns-in_err-turn-clause-any_moment : goal.returns-in_err-turn-clause-any_moment
returns-in_err-turn-clause-any_moment g c told w is =
    let state = state_of c.args.self.now in let store = (g.V.Shelf.cloud_at c.args.shelf.now c.args.cloud.0).now Journal in
    c.turn.ensures.any_moment told w (stands_of state store w is) (other_of state store w _ is (ap (λ (h : ℕ). 1 - h) c.half-half.ensures))

pub returns-clause-any_moment : goal.returns-clause-any_moment
returns-clause-any_moment g c told w is =
    let state = state_of c.args.self.now in let store = (g.V.Shelf.cloud_at c.args.shelf.now c.args.cloud.0).now Journal in
    c.turn.ensures.any_moment told w (stands_of state store w is) (other_of state store w _ is (ap (λ (h : ℕ). 1 - h) c.half-half.ensures))

pub returns-clause-turned : goal.returns-clause-turned
returns-clause-turned g c told w is =
    let number = c.args.cloud.0 in let state = state_of c.args.self.now in
    let store = (g.V.Shelf.cloud_at c.args.shelf.now number).now Journal in let last = (g.V.Shelf.cloud_at c.turn.new.shelf number).now Journal in
    let half = ap (λ (h : ℕ). 1 - h) c.half-half.ensures in
    let header = c.args.header.now in let commands = c.args.commands in let records = c.args.records in let region = c.args.region in
    let next = c.next_start-next.ensures in
    let follows = may_follow state store w _ header commands records region is half c.requires.header c.requires.format (search rules) (search rules) c.requires.region in
    let laid = c.in_ok-turn.ensures.turned told w (stands_of state store w is) (subst (λ (s : Start). MayFollow w (1 - c.half-half.result) s) (sym next) follows) in
    let after : JournalState = record state { stage = Laying; next = c.next_start-next.result; laid = writer.state_of c.turn.new.self } in
    turned state after store last w (1 - c.half-half.result) header commands records region is half refl next
    (subst (λ (s : Start). writer.IsWriterLaying after.laid last w (writer.begun_with (1 - c.half-half.result) s)) next laid)

pub returns-clause-state : goal.returns-clause-state
returns-clause-state g c =
    let state = state_of c.args.self.now in let next = c.next_start-next.ensures in let found = c.in_ok-turn.ensures.state in
    let long = second (next_start state.start c.args.header.now c.args.commands c.args.records c.args.region) _ c.requires.format refl in
    (found.0 ∙ ap (λ (s : Start). records_of s.checkpoint) next, omega (arith, found.1, ap (λ (s : Start). length (start_bytes s)) next, long))

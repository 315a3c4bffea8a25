use Rattle.std.proofs.Common.{◌≡◌, ◌≢◌, ◌+◌, ℕ, length, refl, sym, ◌∙◌, ap, subst, rules}
use Rattle.journal_halves.specs.JournalStart.Ranges.{IsStart}
use Rattle.journal_halves.specs.JournalStart.Spelling.{start_bytes}
use Rattle.journal_halves.specs.States.{begun_at}
use Rattle.journal_halves.specs.States as records
use Rattle.commit_journal.specs.declared.journal.Stage.TheVariants.{Reading}
use Rattle.commit_journal.specs.States.{JournalState, state_of}
use Rattle.commit_journal.proofs.Opening.{opened_at}
use Rattle.commit_journal.proofs.journal.Journal.take.Goals as goal

pub returns-clause-taken : goal.returns-clause-taken
returns-clause-taken c store synced current =
    (record { start = c.args.found.start; is_current = current; header_is = refl }, c.is_same.ensures.other c.if-is_same.false, refl, refl)

pub returns-then-is_same-clause-taken : goal.returns-then-is_same-clause-taken
returns-then-is_same-clause-taken c store synced current =
    let found = c.args.found in let asked = c.args.asked.now in
    let same : found.start.header ≡ asked = c.is_same.ensures.same c.if-is_same.true in
    let after : JournalState = record (state_of c.args.self.now) { stage = Reading; start = found.start; left = c.records-self.result; current = records.state_of c.begin.new.self } in
    let at : after.current ≡ begun_at found.half (length (start_bytes found.start) + 5) = c.begin.ensures ∙ ap (λ (n : ℕ). begun_at found.half (n + 5)) (c.len-len.ensures.value ∙ ap length c.bytes.ensures) in
    (opened_at after store found.half found.start asked synced current at refl c.records-self.ensures same, record { start = found.start; is_current = current; header_is = same })

pub returns-then-is_same-clause-start : goal.returns-then-is_same-clause-start
returns-then-is_same-clause-start c = subst (λ (s : records.HalfState). IsStart s.half c.args.found.start) (sym c.begin.ensures) c.requires.start

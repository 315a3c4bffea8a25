use Rattle.std.proofs.Common.{◌≡◌, refl, [], ◌∷◌, length, arith, sym, ◌∙◌}
use Rattle.std.proofs.lemmas.List.{append-nil}
use Rattle.rabin_chunker.specs.Cuts.{start_at, last_end}
use Rattle.rabin_chunker.proofs.Outcome.{at_ok}
use Rattle.rabin_chunker.proofs.Steps.{recent_skipped, last_end-none, last_end-some}
use Rattle.rabin_chunker.proofs.chunker.Chunker.finish.Goals as goal
use Rattle.rabin_chunker.proofs.chunker.Chunker.finish.Goals.{else-self-gt0-via-then-self-gt0+else-is_err, else-self-gt0-via-else-self-gt0}

pub returns-clause-read : goal.returns-clause-read
unfolding start_at
returns-clause-read c = record { place = refl; reads = record { begun = refl; recent = recent_skipped [] 0 0 _ (omega arith) } }

pub returns-clause-appended : goal.returns-clause-appended
returns-clause-appended c = λ fed h. elim c.else-self-gt0.branch [
  | else-self-gt0-via-then-self-gt0+else-is_err w ↦
      let some : last_end fed ≡ length fed ∷ [] = last_end-some fed c.args.self.now.inside h.reads.begun w.if-self-gt0.true in
      w.cuts-is ∙ at_ok w.push.result w.push.ensures.ok w.if-is_err.ensures.negation ∙ rw (some, h.place) refl
  | else-self-gt0-via-else-self-gt0 w ↦
      let none : last_end fed ≡ [] = last_end-none fed c.args.self.now.inside h.reads.begun (omega (arith, w.if-self-gt0.false)) in
      w.cuts-is ∙ rw none (sym (append-nil c.args.cuts.now))
]

pub returns-then-is_err-clause-quiet : goal.returns-then-is_err-clause-quiet
returns-then-is_err-clause-quiet c = λ fed h none.
    let some : last_end fed ≡ length fed ∷ [] = last_end-some fed c.args.self.now.inside h.reads.begun c.if-self-gt0.true in
    let both : length fed ∷ [] ≡ [] = sym some ∙ none in
    cc

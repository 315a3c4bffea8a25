use Rattle.std.proofs.Common.{ℕ, List, Option, ◌∙◌, ◌==◌, not, ap, sym, position}
use Rattle.caont_rs.specs.Opening.{without_pad}
use Rattle.std.proofs.lemmas.List.{take_rest}
use Rattle.caont_rs.proofs.opening.test_pad.Goals as goal

pub returns-in-None : goal.returns-in-None
returns-in-None c = ap (λ (o : Option ℕ). without_pad c.args.secret_len c.args.text.now o)
    (ap (λ (xs : List ℕ). position (λ byte. not (byte == 0)) xs) (sym (take_rest c.args.text.now c.args.secret_len)) ∙ sym c.in-None.ensures.value)

pub returns-in-Some : goal.returns-in-Some
returns-in-Some c = ap (λ (o : Option ℕ). without_pad c.args.secret_len c.args.text.now o)
    (ap (λ (xs : List ℕ). position (λ byte. not (byte == 0)) xs) (sym (take_rest c.args.text.now c.args.secret_len)) ∙ sym c.in-Some.ensures.value)

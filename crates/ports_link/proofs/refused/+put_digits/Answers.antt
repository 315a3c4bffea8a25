use Rattle.std.proofs.Common.{ℕ, List, [], ◌∷◌, ◌++◌, ◌≡◌, ◌+◌, ◌%◌, ◌/◌, ap, sym, ◌∙◌, append_assoc, arith}
use Rattle.std.specs.Prelude.{decimal}
use Rattle.std.proofs.lemmas.Fmt.{decimal_step}
use Rattle.ports_link.proofs.refused.+put_digits.Goals as goal

pub returns-clause-ok : goal.returns-clause-ok
returns-clause-ok t c =
    let n = c.args.number in
    let last : List ℕ = (48 + n % 10) ∷ [] in
    let more : c.args.out.now ++ decimal n ≡ c.put_digits.new.out ++ (48 + n % 10) ∷ [] =
    ap (λ (x : List ℕ). c.args.out.now ++ x) (decimal_step n (omega arith) (omega arith))
    ∙ sym (append_assoc c.args.out.now (decimal (n / 10)) last)
    ∙ ap (λ (x : List ℕ). x ++ last) (sym c.in_ok-put_digits.ensures.ok) in
    rw more c.push-2.ensures.ok

use Rattle.std.proofs.Common.{List, ℕ, ap, sym, ◌∙◌, arith, slice_index}
use Rattle.gf256.specs.Field.{product}
use Rattle.gf256.proofs.Laws.{product_one}
use Rattle.reed_solomon.proofs.evaluation.write_multiple.Goals as goal

pub returns-then-c-eq1 : goal.returns-then-c-eq1
returns-then-c-eq1 c = λ i h.
    let s : ℕ = slice_index c.args.source.now i in
    ap (λ (z : List ℕ). slice_index z i) c.copy_from_slice.ensures.after
    ∙ sym (ap (λ (z : ℕ). product z s) c.if-c-eq1.true ∙ product_one s (omega (arith, c.type_inv.source i)))

use Rattle.std.proofs.Common.{◌≡◌, ◌-◌, ◌/◌, ◌%◌, ◌∙◌, sym, [], ◌∷◌, bit_xor, arith}
use Rattle.std.specs.Int.Bits.{xor_zero_r}
use Rattle.aes256.proofs.Keys.{constant-at}
use Rattle.aes256.proofs.schedule.step_of.Goals as goal

pub returns-then-i-eq0 : goal.returns-then-i-eq0
returns-then-i-eq0 c =
    let e : c.args.i % 8 ≡ 0 = c.if-i-eq0.true in
    rw e (λ t. bit_xor (c.sub.ensures t) (constant-at (c.args.i / 8 - 1) (omega arith) t)
    ∷ (c.sub-then-i-eq0.ensures ∙ sym (xor_zero_r _)) t
    ∷ (c.sub-then-i-eq0-2.ensures ∙ sym (xor_zero_r _)) t
    ∷ (c.sub-then-i-eq0-3.ensures ∙ sym (xor_zero_r _)) t ∷ [])

use Rattle.std.proofs.Common.{◌≡◌, true, refl, arith, sym, ◌∙◌}
use Rattle.session.proofs.KitDigits.{all_lower, lower_all, lower_turn, unhex_left}
use Rattle.session.proofs.front.decode_block.Goals as goal

pub loop-i-init : goal.loop-i-init
unfolding all_lower
loop-i-init c = refl

pub loop-i-preserved : goal.loop-i-preserved
loop-i-preserved c = rw (c.loop-i.invariant, c.is_lower-lower.ensures) (sym (lower_turn c.args.digits.now c.loop-i.i (omega arith)))

pub returns-then-lower : goal.returns-then-lower
returns-then-lower c = λ ok.
    let lower : all_lower c.args.digits.now ≡ true = sym (c.loop-i.invariant ∙ lower_all c.args.digits.now c.loop-i.i (omega arith)) ∙ c.if-lower.true in
    unhex_left c.args.digits.now c.decode_to_slice.new.out _ c.decode_to_slice.result c.requires lower c.decode_to_slice.ensures.value (sym c.is_ok.ensures.value ∙ ok)

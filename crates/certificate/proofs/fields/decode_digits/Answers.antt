use Rattle.std.proofs.Common.{◌≡◌, true, false, refl, arith, sym, ap, ◌∙◌}
use Rattle.std.specs.Prelude.{is_ok}
use Rattle.session.proofs.Grammar.KitHex.{all_lower, lower_all, lower_turn, unhex_refused, unhex_written}
use Rattle.certificate.proofs.fields.decode_digits.Goals as goal

pub loop-i-init : goal.loop-i-init
unfolding all_lower
loop-i-init c = refl

pub loop-i-preserved : goal.loop-i-preserved
loop-i-preserved c = rw (c.loop-i.invariant, c.is_digit-digits.ensures) (sym (lower_turn c.args.text.now c.loop-i.i (omega arith)))

pub returns-then-digits-clause-good : goal.returns-then-digits-clause-good
returns-then-digits-clause-good c = λ _.
    let lower : all_lower c.args.text.now ≡ true = sym (c.loop-i.invariant ∙ lower_all c.args.text.now c.loop-i.i (omega arith)) ∙ c.if-digits.true in
    (unhex_written c.args.text.now c.decode_to_slice.new.out _ c.decode_to_slice.result c.requires lower c.decode_to_slice.ensures.value).1

pub returns-then-digits-clause-bad : goal.returns-then-digits-clause-bad
returns-then-digits-clause-bad c = λ not.
    let lower : all_lower c.args.text.now ≡ true = sym (c.loop-i.invariant ∙ lower_all c.args.text.now c.loop-i.i (omega arith)) ∙ c.if-digits.true in
    let done = unhex_written c.args.text.now c.decode_to_slice.new.out _ c.decode_to_slice.result c.requires lower c.decode_to_slice.ensures.value in
    let ok : c.is_ok.result ≡ true = c.is_ok.ensures.value ∙ ap is_ok done.0 in
    let apart : true ≡ false = sym ok ∙ not in
    cc apart

pub returns-else-digits-clause-bad : goal.returns-else-digits-clause-bad
returns-else-digits-clause-bad c = λ not. unhex_refused c.args.text.now (sym (c.loop-i.invariant ∙ lower_all c.args.text.now c.loop-i.i (omega arith)) ∙ not)

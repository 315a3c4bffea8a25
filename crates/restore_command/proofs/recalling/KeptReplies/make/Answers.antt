use Rattle.std.proofs.Common.{ℕ, List, [], ◌∷◌, length, ◌∙◌, ap, arith, length-append}
use Rattle.restore_command.specs.Recalling.{kept_of}
use Rattle.restore_command.proofs.Recalled.{none_more}
use Rattle.restore_command.proofs.recalling.KeptReplies.make.Goals as goal

pub loop-number-init : goal.loop-number-init
loop-number-init c = (ap length c.new-items.ensures.items, λ cloud. ap (λ (l : List (List ℕ)). kept_of l cloud) c.new-items.ensures.items)

pub loop-number-preserved : goal.loop-number-preserved
loop-number-preserved c =
    let more = c.in_ok-push.ensures.items in
    let before = c.loop-number.items.items in (
      omega (arith, ap length more, length-append before (c.in_ok-make.field-0 ∷ []), c.loop-number.invariant.0),
      λ cloud. ap (λ (l : List (List ℕ)). kept_of l cloud) more
          ∙ none_more before c.in_ok-make.field-0 c.loop-number.invariant.1 c.in_ok-make.ensures cloud,
    )

pub returns-clause-len : goal.returns-clause-len
returns-clause-len c = omega (arith, c.loop-number.invariant.0, c.loop-number-test.false, c.loop-number.auto.number-end)

pub returns-clause-none : goal.returns-clause-none
returns-clause-none c = c.loop-number.invariant.1

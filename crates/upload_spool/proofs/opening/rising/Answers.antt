use Rattle.std.proofs.Common.{◌+◌, ◌∙◌, sym, subst}
use Rattle.upload_spool.proofs.Picks.{Picked, picked_more, picked_on}
use Rattle.upload_spool.proofs.opening.rising.Goals as goal
use Rattle.upload_spool.proofs.opening.rising.Goals.{then-is_noted+in_ok-push, else-is_noted}

pub loop-number-preserved : goal.loop-number-preserved
loop-number-preserved c =
    let noted = c.args.noted.now in let number = c.loop-number.number in let clouds = c.loop-number.clouds in
    elim c.if-is_noted.branch [
      | then-is_noted+in_ok-push w ↦
          subst (Picked noted (number + 1)) (sym (w.clouds-is ∙ w.in_ok-push.ensures.ok)) (picked_more noted number clouds c.loop-number.invariant (sym c.is_noted.ensures ∙ w.if-is_noted.true))
      | else-is_noted w ↦
          subst (Picked noted (number + 1)) (sym w.clouds-is) (picked_on noted number clouds c.loop-number.invariant (sym c.is_noted.ensures ∙ w.if-is_noted.false))
    ]

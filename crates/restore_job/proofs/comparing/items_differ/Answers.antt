use Rattle.std.proofs.Common.{sym, ◌∙◌}
use Rattle.restore_job.proofs.Taking.{differ_end}
use Rattle.restore_job.proofs.comparing.items_differ.Goals as goal

pub returns-in_default : goal.returns-in_default
returns-in_default c = sym (differ_end c.items.place c.items.ones.now c.items.others.now c.in_default.ensures) ∙ c.items.invariant.same

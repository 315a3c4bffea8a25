use Rattle.std.proofs.Common.{sym, ap, ◌∙◌, ℕ}
use Rattle.audit_command.specs.Source.{mark_behind}
use Rattle.audit_command.proofs.Counting.{mark_append}
use Rattle.audit_command.proofs.reading.mark_of.Goals as goal

pub returns : goal.returns
returns c = c.mark_after.ensures.mark
    ∙ ap (λ (m : ℕ × ℕ). mark_behind m c.args.more.now) c.mark_after-mark.ensures.mark
    ∙ sym (mark_append (1, 0) c.args.text.now c.args.more.now)

use Rattle.std.proofs.Common.{List, ℕ, ◌++◌, ap, ◌∙◌}
use Rattle.audit_command.specs.Said.{check_text}
use Rattle.command_cloud.proofs.Written.{written_as}
use Rattle.audit_command.proofs.lines.write_checked.Goals as goal

pub returns-in-Ok : goal.returns-in-Ok
returns-in-Ok g c = written_as _ _ _ _ _ _ (c.as_slice.ensures ∙ (c.in-Ok.ensures
    ∙ ap (λ (l : List ℕ). l ++ check_text c.args.cloud c.args.text.now c.args.came) c.new-line.ensures))
    c.status_of_check.ensures c.write_text.ensures

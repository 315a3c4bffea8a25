use Rattle.std.proofs.Common.{List, ℕ, ◌++◌, ap, ◌∙◌}
use Rattle.command_cloud.proofs.Written.{written_as}
use Rattle.migrate_command.specs.Said.{migrate_text}
use Rattle.migrate_command.proofs.lines.write_migrated.Goals as goal

pub returns-in-Ok : goal.returns-in-Ok
returns-in-Ok g c = written_as _ _ _ _ _ _ (c.as_slice.ensures ∙ (c.in-Ok.ensures
    ∙ ap (λ (l : List ℕ). l ++ migrate_text c.args.cloud c.args.came) c.new-line.ensures))
    c.status_of.ensures c.write_text.ensures

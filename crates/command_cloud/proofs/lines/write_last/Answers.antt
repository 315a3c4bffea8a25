use Rattle.std.proofs.Common.{List, ℕ, ◌++◌, refl, ap, ◌∙◌}
use Rattle.backup_command.specs.Transcript.Endings.{ending_text}
use Rattle.command_cloud.proofs.Written.{written_as}
use Rattle.command_cloud.proofs.lines.write_last.Goals as goal

pub returns-in-Ok : goal.returns-in-Ok
returns-in-Ok g c = written_as _ _ _ _ _ _ (c.as_slice.ensures ∙ (c.in-Ok.ensures.ok
    ∙ ap (λ (l : List ℕ). l ++ ending_text c.args.ending.now) c.new-line.ensures)) refl c.write_text.ensures

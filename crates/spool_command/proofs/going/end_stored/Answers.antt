use Rattle.std.proofs.Common.{true, inl, inr, [], ◌∷◌, refl}
use Rattle.backup_command.specs.Transcript.line.Line.TheVariants as lines
use Rattle.backup_command.proofs.Joining.{joined}
use Rattle.spool_command.specs.Going.{stored_lines}
use Rattle.spool_command.proofs.going.end_stored.Goals as goal

pub returns-in-Err-clause-ends : goal.returns-in-Err-clause-ends
returns-in-Err-clause-ends g c = λ told. inl refl

pub returns-in-Err-finish-clause-ends : goal.returns-in-Err-finish-clause-ends
returns-in-Err-finish-clause-ends g c = (c.in-Ok.ensures, λ told. (c.in-Err-finish.ensures.emptied told).err)

pub returns-in-Ok-put_line-clause-ends : goal.returns-in-Ok-put_line-clause-ends
returns-in-Ok-put_line-clause-ends g c = (
  joined c.args.text.now c.put_stored.new.text c.put_line.new.text (stored_lines c.args.had) (lines.End 1 true ∷ []) c.in-Ok.ensures c.in-Ok-put_line.ensures,
  λ told. (c.in-Ok-finish.ensures.emptied told).ok,
)

pub returns-in-Err-put_line-clause-ends : goal.returns-in-Err-put_line-clause-ends
returns-in-Err-put_line-clause-ends g c = λ told. inr (c.in-Ok-finish.ensures.emptied told).ok

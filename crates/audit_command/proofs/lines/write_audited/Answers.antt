use Rattle.std.proofs.Common.{List, ℕ, [], ◌++◌, Result, Err, sym, ap, ◌∙◌, subst}
use Rattle.audit.specs.declared.errors.AuditErr.{AuditErr}
use Rattle.command_cloud.specs.BackupCommand.Writing.{HasWrittenOrCause, output_of}
use Rattle.audit_command.specs.Said.{audit_status, audit_text}
use Rattle.audit_command.proofs.Written.{refusal_is}
use Rattle.command_cloud.proofs.Written.{written_as}
use Rattle.audit_command.proofs.lines.write_audited.Goals as goal

pub returns-in-Ok : goal.returns-in-Ok
returns-in-Ok g c = subst (λ (r : Result ℕ AuditErr). HasWrittenOrCause (audit_text c.args.cloud c.args.text.now r) (audit_status r)
    (output_of (g.K.Sink.written c.args.sink.now) (g.K.Sink.written c.write_text.new.sink)
    (g.K.Sink.faults c.args.sink.now) (g.K.Sink.faults c.write_text.new.sink)) c.write_text.result) (sym c.in-Ok.is) c.write_text.ensures

pub returns-in-Ok-put_unaudited : goal.returns-in-Ok-put_unaudited
returns-in-Ok-put_unaudited g c = subst (λ (r : Result ℕ AuditErr). HasWrittenOrCause (audit_text c.args.cloud c.args.text.now r) (audit_status r)
    (output_of (g.K.Sink.written c.args.sink.now) (g.K.Sink.written c.write_text-in-Ok-put_unaudited.new.sink)
    (g.K.Sink.faults c.args.sink.now) (g.K.Sink.faults c.write_text-in-Ok-put_unaudited.new.sink)) c.write_text-in-Ok-put_unaudited.result) (sym c.in-Err.is)
    (written_as _ _ _ _ _ _ (c.as_slice.ensures ∙ (c.in-Ok-put_unaudited.ensures
    ∙ (ap (λ (l : List ℕ). l ++ audit_text c.args.cloud [] (Err c.in-Err.error)) c.new-line.ensures
    ∙ refusal_is c.args.cloud [] c.args.text.now c.in-Err.error)))
    c.status_of_audit.ensures c.write_text-in-Ok-put_unaudited.ensures)

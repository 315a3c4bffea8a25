use Rattle.std.proofs.Common.{sym, subst}
use Rattle.command_cloud.specs.BackupCommand.Writing.{output_of}
use Rattle.audit_command.specs.declared.reading.CertificateReadErr.{CertificateReadErr}
use Rattle.audit_command.specs.Steps.{SaysUnread}
use Rattle.audit_command.proofs.lines.write_unread.Goals as goal

pub returns-in-TooLong : goal.returns-in-TooLong
returns-in-TooLong g c = subst (λ (why : CertificateReadErr). SaysUnread why
    (output_of (g.K.Sink.written c.args.sink.now) (g.K.Sink.written c.write_last.new.sink)
    (g.K.Sink.faults c.args.sink.now) (g.K.Sink.faults c.write_last.new.sink)) c.write_last.result) (sym c.in-TooLong.is) c.write_last.ensures

use Rattle.std.proofs.Common.{sym, subst}
use Rattle.backup_command.specs.Writing.{output_of}
use Rattle.command_cloud.specs.declared.opening.Unopened.{Unopened}
use Rattle.command_cloud.specs.Said.{SaysUnopened}
use Rattle.command_cloud.proofs.lines.write_unopened.Goals as goal

pub returns-in-Refused : goal.returns-in-Refused
returns-in-Refused g c = subst (λ (why : Unopened). SaysUnopened c.args.cloud why
    (output_of (g.K.Sink.written c.args.sink.now) (g.K.Sink.written c.write_shut.new.sink)
    (g.K.Sink.faults c.args.sink.now) (g.K.Sink.faults c.write_shut.new.sink)) c.write_shut.result) (sym c.in-Refused.is) c.write_shut.ensures

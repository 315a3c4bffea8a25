use Rattle.std.proofs.Common.{subst}
use Rattle.command_cloud.specs.BackupCommand.Writing.{HasWrittenOrCause, output_of}
use Rattle.command_cloud.specs.JournalStart.start.Header.{Header}
use Rattle.audit_command.specs.Said.{check_status, check_text}
use Rattle.audit_command.proofs.checking.check_read.Goals as goal

pub returns-clause-answered : goal.returns-clause-answered
returns-clause-answered g c =
    let a = c.check-came.ensures in
    let came = c.check-came.result in
    let out = (output_of (g.K.Sink.written c.args.sink.now) (g.K.Sink.written c.write_checked.new.sink)
    (g.K.Sink.faults c.args.sink.now) (g.K.Sink.faults c.write_checked.new.sink)) in
    record {
      result = came;
      answers = record {
        judged = a.judged;
        whole = a.whole;
        rotten = a.rotten;
        passes = a.passes;
        counts = a.counts;
        stays = a.stays;
      };
      written = subst (λ (h : Header). HasWrittenOrCause (check_text h.cloud c.args.text.now came) (check_status came) out c.write_checked.result)
          c.header.ensures c.write_checked.ensures;
    }

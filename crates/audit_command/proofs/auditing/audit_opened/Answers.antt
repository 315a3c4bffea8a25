use Rattle.std.proofs.Common.{ℕ, List, subst}
use Rattle.audit.specs.Audits.{own_of}
use Rattle.command_cloud.specs.BackupCommand.Writing.{HasWrittenOrCause, output_of}
use Rattle.command_cloud.specs.JournalStart.start.Header.{Header}
use Rattle.audit_command.specs.Said.{audit_status, audit_text}
use Rattle.audit_command.proofs.Ends.{audit_said}
use Rattle.audit_command.proofs.auditing.audit_opened.Goals as goal

pub returns-clause-audited : goal.returns-clause-audited
returns-clause-audited g c =
    let a = c.audit-came.ensures in
    let came = c.audit-came.result in
    let text = c.audit-came.new.out in
    let out = (output_of (g.K.Sink.written c.args.sink.now) (g.K.Sink.written c.write_audited.new.sink)
    (g.K.Sink.faults c.args.sink.now) (g.K.Sink.faults c.write_audited.new.sink)) in
    record {
      result = came;
      areas = a.judged;
      passes = a.passes;
      counts = a.counts;
      stays = a.stays;
      written = audit_said c.args.server.now.store.header.cloud (own_of c.args.server.now) came _ text out c.write_audited.result c.new-text.ensures
          a.appends
          (subst (λ (h : Header). HasWrittenOrCause (audit_text h.cloud text came) (audit_status came) out c.write_audited.result) c.header.ensures
          (subst (λ (t : List ℕ). HasWrittenOrCause (audit_text c.header.result.cloud t came) (audit_status came) out c.write_audited.result)
          c.as_slice.ensures c.write_audited.ensures));
    }

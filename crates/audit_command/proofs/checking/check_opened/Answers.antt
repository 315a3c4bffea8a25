use Rattle.std.proofs.Common.{List, ℕ, refl, sym, subst}
use Rattle.command_cloud.specs.BackupCommand.Reading.{input_of}
use Rattle.audit_command.specs.Source.{IsCertificateRead}
use Rattle.audit_command.specs.Steps.{Answered, Unread}
use Rattle.audit_command.proofs.checking.check_opened.Goals as goal

pub returns-in-Ok-clause-checked : goal.returns-in-Ok-clause-checked
returns-in-Ok-clause-checked g c = Answered c.as_slice.result.now
    (subst (λ (t : List ℕ). IsCertificateRead (input_of (g.S.Source.left c.args.source.now) (g.S.Source.faults c.args.source.now)
    (g.S.Source.faults c.read_text.new.source)) t) (sym c.as_slice.ensures) c.in-Ok.ensures.reads) c.check_read.ensures.answered

pub returns-in-Err-clause-checked : goal.returns-in-Err-clause-checked
returns-in-Err-clause-checked g c = Unread c.in-Err.why c.in-Err.ensures.reads c.write_unread.ensures
    (record { cloud_is = refl; total = refl })

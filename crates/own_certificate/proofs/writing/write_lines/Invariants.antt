use Rattle.audit_base.specs.Certificate.Lines.{certificate_lines}
use Rattle.own_certificate.specs.Own.{own_by}
use Rattle.own_certificate.proofs.Parting.{Wrote}
use Rattle.own_certificate.proofs.writing.write_lines.Given as goal

abbrev pub invariant-loop-index : goal.invariant-loop-index
invariant-loop-index l = Wrote (certificate_lines (own_by l.heading.shape l.heading.cloud l.memory)) l.fn.out l.out l.index

use Rattle.audit_base.specs.Certificate.Lines.{certificate_lines}
use Rattle.own_certificate.specs.Own.{own_by}
use Rattle.own_certificate.proofs.Parting.{Reached}
use Rattle.own_certificate.proofs.judging.parting.Given as goal

abbrev pub invariant-loop-index : goal.invariant-loop-index
invariant-loop-index l = Reached (certificate_lines (own_by l.heading.shape l.heading.cloud l.memory)) l.fn.text l.index l.rest

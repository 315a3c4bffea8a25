use Rattle.std.proofs.Common.{ap}
use Rattle.audit_base.specs.Certificate.line.Heading.{Heading}
use Rattle.own_certificate.proofs.Parting.{same_heading}
use Rattle.own_certificate.proofs.judging.is_same.Goals as goal

pub returns : goal.returns
returns c = (
  λ t. let e = c.are_same.ensures.0 t in same_heading c.args.one c.args.two e.0 e.1 e.2,
  λ same. c.are_same.ensures.1 (ap (λ (h : Heading). h.shape.n) same, ap (λ (h : Heading). h.shape.k) same, ap (λ (h : Heading). h.cloud.0) same),
)

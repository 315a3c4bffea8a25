use Rattle.std.proofs.Common.{sym, ◌∙◌}
use Rattle.own_certificate.proofs.Parting.{differs}
use Rattle.own_certificate.proofs.judging.refused.Goals as goal

pub returns-then-is_same-clause-judged : goal.returns-then-is_same-clause-judged
returns-then-is_same-clause-judged c = λ own heading parts.
    differs c.law_of_certificates.ensures.one_text c.law_of_certificates.ensures.apart own c.args.text.now c.args.index parts
    c.in-Ok.found c.in-Ok.ensures.reads.0 c.in-Ok.ensures.reads.1 (c.is_same.ensures.0 c.if-is_same.true ∙ sym heading)

use Rattle.own_certificate.proofs.Parting.{not_parted_at}
use Rattle.own_certificate.proofs.judging.judge.Goals as goal

pub returns-in-Some-clause-own : goal.returns-in-Some-clause-own
returns-in-Some-clause-own c = λ same. absurd (not_parted_at _ _ c.in-Ok-parting.at c.in-Some.index _ c.in-Ok-parting.ensures.parts c.in-Some.is same)

use Rattle.record_laws.proofs.Taken.{there_taken, none_taken}
use Rattle.record_laws.proofs.taking.law_of_lawful_records.Goals as goal

pub returns : goal.returns
returns c = record {
  there = λ header image list c before body place next fits wants at. there_taken header image list c before body next at fits place wants;
  nowhere = λ header image list c before body next fits none at. none_taken header image list c before body next at fits none;
}

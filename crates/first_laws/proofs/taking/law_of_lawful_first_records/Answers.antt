use Rattle.first_laws.proofs.RecordTaken.{there_taken, none_taken}
use Rattle.first_laws.proofs.taking.law_of_lawful_first_records.Goals as goal

pub returns : goal.returns
returns c = record {
  there = λ header image users list chain before body place next fits wants at. there_taken header image users list chain before body next at fits place wants;
  nowhere = λ header image users list chain before body next fits none at. none_taken header image users list chain before body next at fits none;
}

use Rattle.first_laws.proofs.Chained.{chain_left_one, chain_stands}
use Rattle.first_laws.proofs.laws.law_of_first_chains.Goals as goal

pub returns : goal.returns
returns c = record {
  left = λ header image users list c may lays. chain_left_one header image list c may lays users;
  stand = λ header image list c m may lays one. chain_stands header image list c may lays m one;
}

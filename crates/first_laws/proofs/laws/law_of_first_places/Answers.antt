use Rattle.first_laws.proofs.Lying.{shares_bound, recipes_bound, places_lie}
use Rattle.first_laws.proofs.laws.law_of_first_places.Goals as goal

pub returns : goal.returns
returns c = record {
  lie = λ header image list c m may lays one. places_lie header image list c may lays m one;
  ends = λ header image list c m may lays one. (shares_bound header image list c may lays m one, recipes_bound header image list c may lays m one);
}

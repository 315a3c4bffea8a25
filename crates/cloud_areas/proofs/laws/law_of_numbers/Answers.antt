use Rattle.cloud_areas.proofs.Numbers.{number_is, same_number}
use Rattle.cloud_areas.proofs.laws.law_of_numbers.Goals as goal

pub returns : goal.returns
returns c = record { number = number_is; same = same_number }

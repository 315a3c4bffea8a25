use Rattle.cloud_areas.proofs.Begun.{unbegun_stands, empty_stands, new_stands, has_stands, stands_sound}
use Rattle.cloud_areas.proofs.Numbers.{none_unbegun, none_started, by_chain}
use Rattle.cloud_areas.proofs.OneChain.{by_one}
use Rattle.cloud_areas.proofs.laws.law_of_standing.Goals as goal

pub returns : goal.returns
returns c = record {
  unbegun = unbegun_stands;
  only = none_unbegun;
  empty = empty_stands;
  started = λ image header has. new_stands header image has;
  started_only = none_started;
  has = has_stands;
  sound = stands_sound;
  chain = by_chain;
  one = by_one;
}

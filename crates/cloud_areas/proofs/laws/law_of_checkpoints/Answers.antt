use Rattle.cloud_areas.proofs.Room.{room_behind, half_is_enough}
use Rattle.cloud_areas.proofs.Summing.{sums_up, summed_stands}
use Rattle.cloud_areas.proofs.laws.law_of_checkpoints.Goals as goal

pub returns : goal.returns
returns c = record { holds = sums_up; stands = summed_stands; room = room_behind; limit = half_is_enough }

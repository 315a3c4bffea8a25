use Rattle.std.proofs.Common.{refl, sym}
use Rattle.sha2.proofs.Schedule256.{rounds_first}
use Rattle.hash_lanes.specs.Lanes.{lane}
use Rattle.hash_lanes.proofs.Vectors.{lane_word}
use Rattle.hash_lanes.proofs.rounds.first_step.Goals as goal

pub returns : goal.returns
returns c = λ j b h lt window held.
    rounds_first b h (lane j c.args.w.now) (lane j c.args.v) c.args.t _ _ _ c.requires window held refl
    (sym (lane_word j c.args.w.now c.args.t)) (c.round.ensures j lt)

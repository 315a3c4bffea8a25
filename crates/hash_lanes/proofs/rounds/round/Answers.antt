use Rattle.std.proofs.Common.{refl}
use Rattle.hash_lanes.proofs.Vectors.{lane_word}
use Rattle.hash_lanes.proofs.rounds.round.Goals as goal

pub returns : goal.returns
returns c = λ j lt.
    rw (
      lane_word j c.args.v 0,
      lane_word j c.args.v 1,
      lane_word j c.args.v 2,
      lane_word j c.args.v 3,
      lane_word j c.args.v 4,
      lane_word j c.args.v 5,
      lane_word j c.args.v 6,
      lane_word j c.args.v 7,
      c.add-new_a.ensures j lt,
      c.add-new_e.ensures j lt,
      c.add-temp1.ensures j lt,
      c.add-temp2.ensures j lt,
      c.add_word-third.ensures j lt,
      c.add-second.ensures j lt,
      c.add-first.ensures j lt,
      c.upper_sigma0-turned.ensures j lt,
      c.upper_sigma1-mixed.ensures j lt,
      c.majority-most.ensures j lt,
      c.choose-chosen.ensures j lt,
    ) refl

use Rattle.std.proofs.Common.{refl}
use Rattle.hash_lanes.proofs.Vectors.{lane_word}
use Rattle.hash_lanes.proofs.compression.add_states.Goals as goal

pub returns : goal.returns
returns c = λ j lt.
    rw (
      lane_word j c.args.h 0,
      lane_word j c.args.h 1,
      lane_word j c.args.h 2,
      lane_word j c.args.h 3,
      lane_word j c.args.h 4,
      lane_word j c.args.h 5,
      lane_word j c.args.h 6,
      lane_word j c.args.h 7,
      lane_word j c.args.v 0,
      lane_word j c.args.v 1,
      lane_word j c.args.v 2,
      lane_word j c.args.v 3,
      lane_word j c.args.v 4,
      lane_word j c.args.v 5,
      lane_word j c.args.v 6,
      lane_word j c.args.v 7,
      c.add-s0.ensures j lt,
      c.add-s1.ensures j lt,
      c.add-s2.ensures j lt,
      c.add-s3.ensures j lt,
      c.add-s4.ensures j lt,
      c.add-s5.ensures j lt,
      c.add-s6.ensures j lt,
      c.add-s7.ensures j lt,
    ) refl

use Rattle.std.proofs.Common.{◌≡◌, ◌+◌, ◌%◌, arith, refl}
use Rattle.hash_lanes.proofs.Vectors.{lane_word, lane_set}
use Rattle.hash_lanes.proofs.schedule.next_word.Goals as goal

pub returns-clause-value : goal.returns-clause-value
returns-clause-value c = λ j lt.
    let at : c.args.place % 16 ≡ c.args.place = omega arith in
    rw (
      at,
      lane_word j c.args.w.now c.args.place,
      lane_word j c.args.w.now ((c.args.place + 14) % 16),
      lane_word j c.args.w.now ((c.args.place + 9) % 16),
      lane_word j c.args.w.now ((c.args.place + 1) % 16),
      c.add-word.ensures j lt,
      c.add-sum.ensures j lt,
      c.add-near.ensures j lt,
      c.lower_sigma1-far.ensures j lt,
      c.lower_sigma0-old.ensures j lt,
    ) refl

pub returns-clause-window : goal.returns-clause-window
returns-clause-window c = λ j lt. lane_set j c.args.w.now c.args.place c.add-word.result

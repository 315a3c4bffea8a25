use Rattle.std.proofs.Common.{◌-◌, ◌≤◌, ◌+◌, ◌<◌, ◌^◌}
use Rattle.rabin_chunker.proofs.Laning.{IsPrimed}
use Rattle.rabin_chunker.proofs.scan.lanes_at.Given as goal

abbrev pub invariant-loop-count : goal.invariant-loop-count
invariant-loop-count l = record {
  within : l.count ≤ 48;
  second : IsPrimed l.piece (l.at + 208) l.count l.second;
  third : IsPrimed l.piece (l.at + 464) l.count l.third;
  fourth : IsPrimed l.piece (l.at + 720) l.count l.fourth;
  second_lt : l.second < 2 ^ 53;
  third_lt : l.third < 2 ^ 53;
  fourth_lt : l.fourth < 2 ^ 53;
}

abbrev pub decreases-loop-count : goal.decreases-loop-count
decreases-loop-count l = 48 - l.count

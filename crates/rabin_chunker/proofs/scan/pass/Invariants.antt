use Rattle.std.proofs.Common.{◌-◌, ◌≤◌, ◌+◌}
use Rattle.rabin_chunker.specs.Lanes.{AreLanesAt, IsUnmarked}
use Rattle.rabin_chunker.proofs.scan.pass.Given as goal

abbrev pub invariant-loop-count : goal.invariant-loop-count
invariant-loop-count l = record {
  within : l.count ≤ 256;
  lanes : AreLanesAt l.piece (l.at + l.count) l.lanes;
  first : IsUnmarked l.piece l.at (l.at + l.count + 1);
  second : IsUnmarked l.piece (l.at + 256) (l.at + l.count + 256 + 1);
  third : IsUnmarked l.piece (l.at + 512) (l.at + l.count + 512 + 1);
  fourth : IsUnmarked l.piece (l.at + 768) (l.at + l.count + 768 + 1);
}

abbrev pub decreases-loop-count : goal.decreases-loop-count
decreases-loop-count l = 256 - l.count

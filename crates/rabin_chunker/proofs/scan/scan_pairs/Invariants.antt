use Rattle.std.proofs.Common.{◌-◌, ◌≡◌, ◌≤◌, ◌+◌, slice_range}
use Rattle.rabin_chunker.specs.Cuts.{fingerprint_of}
use Rattle.rabin_chunker.specs.Lanes.{IsUnmarked}
use Rattle.rabin_chunker.proofs.scan.scan_pairs.Given as goal

abbrev pub invariant-loop-at : goal.invariant-loop-at
invariant-loop-at l = record {
  past : l.from ≤ l.at;
  within : l.at ≤ l.to;
  kept : l.sum ≡ fingerprint_of (slice_range l.piece (l.at - 48) l.at);
  unmarked : IsUnmarked l.piece l.from (l.at + 1);
}

abbrev pub decreases-loop-at : goal.decreases-loop-at
decreases-loop-at l = l.to - l.at

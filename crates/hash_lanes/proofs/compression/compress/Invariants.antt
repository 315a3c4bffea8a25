use Rattle.std.proofs.Common.{◌≡◌, ℕ, ◌<◌, length, slice_index, slice_index_or, ◌*◌, []}
use Rattle.sha2.specs.Sha256.{IsRoundsAt, word_at}
use Rattle.hash_lanes.specs.Lanes.{lane, of_four}
use Rattle.hash_lanes.proofs.compression.compress.Given as goal

abbrev pub invariant-load : goal.invariant-load
invariant-load l = (length l.w ≡ 16) × ((j k : ℕ) → j < 4 → k < l.i
    → slice_index (slice_index_or l.w k []) j ≡ word_at (of_four l.first l.second l.third l.fourth j) (4 * k))

abbrev pub invariant-schedule : goal.invariant-schedule
invariant-schedule l = (j : ℕ) → j < 4
    → IsRoundsAt (of_four l.first l.second l.third l.fourth j) (lane j l.state) (lane j l.w) (lane j l.v) (16 * l.turn)

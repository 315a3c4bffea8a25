use Rattle.std.proofs.Common.{◌≡◌, ℕ, ◌<◌, length, slice_index_or}
use Rattle.aes256.specs.Cipher.{round_key}
use Rattle.aes256.specs.Planes.{IsBlock, IsRoundKey, no_planes}
use Rattle.aes256.proofs.schedule.round_keys.Given as goal

abbrev pub invariant-rounds : goal.invariant-rounds
invariant-rounds l = (length l.rounds ≡ 15)
    × ((k : ℕ) → k < 8 → IsBlock (slice_index_or l.rounds 0 no_planes) k (round_key l.words 0))
    × ((r k : ℕ) → 0 < r → r < l.r → k < 8 → IsRoundKey (slice_index_or l.rounds r no_planes) k (round_key l.words r))

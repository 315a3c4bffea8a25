use Rattle.std.proofs.Common.{◌≡◌, ℕ, ◌*◌, ◌/◌, ◌%◌, ◌<◌, length, slice_index}
use Rattle.aes256.specs.Planes.{lanes_at}
use Rattle.aes256.proofs.mask.bytes_of.Given as goal

abbrev pub invariant-rows : goal.invariant-rows
invariant-rows l = (length l.bytes ≡ 128)
    × ((q : ℕ) → q < 16 * l.k → slice_index l.bytes q ≡ slice_index (lanes_at l.fn.blocks (q % 16)) (q / 16))

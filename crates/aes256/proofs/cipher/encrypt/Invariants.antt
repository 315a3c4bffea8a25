use Rattle.std.proofs.Common.{ℕ, ◌<◌, List}
use Rattle.aes256.specs.Cipher.{rounds}
use Rattle.aes256.specs.Planes.{IsBlock, AreRoundKeyPlanes}
use Rattle.aes256.proofs.cipher.encrypt.Given as goal

abbrev pub invariant-rounds : goal.invariant-rounds
invariant-rounds l = (k : ℕ) (text words : List ℕ) → k < 8 → IsBlock l.fn.s k text → AreRoundKeyPlanes l.fn.rounds words
    → IsBlock l.state k (rounds words text l.r)

use Rattle.std.proofs.Common.{◌≡◌, ◌+◌, ◌*◌, length, take}
use Rattle.aes256.specs.Cipher.{key_words}
use Rattle.aes256.proofs.schedule.expand.Given as goal

abbrev pub invariant-words : goal.invariant-words
invariant-words l = (length l.words ≡ 240) × (take (4 * l.n + 32) l.words ≡ key_words l.key l.n)

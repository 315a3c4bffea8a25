-- Four messages side by side: each word of their states is a vector, with a lane for each message.
use Rattle.std.specs.Prelude.{◌≡◌, ℕ, zero, suc, ◌+◌, ◌-◌, ◌*◌, ◌/◌, ◌≤◌, List, length, map, take, drop, slice_index}
use Rattle.sha2.specs.Sha256.{padded_message}

-- the words of message j
abbrev pub lane : ℕ → List (List ℕ) → List ℕ
lane j words = map (λ word. slice_index word j) words

-- the j-th of four
abbrev pub of_four : List ℕ → List ℕ → List ℕ → List ℕ → ℕ → List ℕ
of_four a b c d zero = a
of_four a b c d (suc zero) = b
of_four a b c d (suc (suc zero)) = c
of_four a b c d (suc (suc (suc j))) = d

-- the padded form of the message has so many blocks, and those behind the message's whole blocks, one or two, stand at the
-- front of the tail
pub record IsTail (message tail : List ℕ) (blocks : ℕ) : Type 0 where
  pub count : blocks * 64 ≡ length (padded_message message)
  pub more : length message / 64 + 1 ≤ blocks
  pub most : blocks ≤ length message / 64 + 2
  pub long : length tail ≡ 128
  pub same : take (64 * (blocks - length message / 64)) tail ≡ drop (length message / 64 * 64) (padded_message message)

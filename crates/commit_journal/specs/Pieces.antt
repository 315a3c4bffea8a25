-- Bytes that wait to be written at once.
use Rattle.std.specs.Prelude.{ℕ}

-- the most of them
abbrev pub piece_len : ℕ
piece_len = 4194304

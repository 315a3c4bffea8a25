-- The bytes of a generated file: drawn bytes, pieces, and the generation of each piece that a version has.
use Rattle.std.specs.Prelude.{ℕ, zero, suc, ◌+◌, ◌*◌, ◌/◌, ◌%◌, ◌^◌, ◌==◌, bit_xor, List, [], ◌∷◌, ◌++◌, replicate, if◌then◌else◌}
use Rattle.std.specs.List.{flat_map, range_with_len}
use Rattle.std.specs.Int.{w32, w64, to_be_bytes}

-- ---- drawn bytes

-- a word of 64 bits, moved to the left by so many bits; those past its end are lost
abbrev pub moved_left : ℕ → ℕ → ℕ
moved_left word bits = word * 2 ^ bits % 2 ^ 64

-- and to the right
abbrev pub moved_right : ℕ → ℕ → ℕ
moved_right word bits = word / 2 ^ bits

abbrev pub mixed_left : ℕ → ℕ → ℕ
mixed_left word bits = bit_xor word (moved_left word bits)

abbrev pub mixed_right : ℕ → ℕ → ℕ
mixed_right word bits = bit_xor word (moved_right word bits)

-- The state behind this one: xor with itself moved 13 bits to the left, then 7 to the right, then 17 to the left.
unfoldable pub next_state : ℕ → ℕ
next_state state = mixed_left (mixed_right (mixed_left state 13) 7) 17

-- So many bytes from this state on. Before each byte the state goes on, and the byte is its low 8 bits.
unfoldable pub drawn : ℕ → ℕ → List ℕ
drawn state zero = []
drawn state (suc count) = next_state state % 256 ∷ drawn (next_state state) count

-- a state is never 0
abbrev pub or_one : ℕ → ℕ
or_one state = if state == 0 then 1 else state

-- where the drawn bytes of a piece begin
abbrev pub first_state : ℕ → ℕ → ℕ → ℕ
first_state seed piece generation = or_one ((seed + piece * 4294967296 + generation + 1) % 2 ^ 64)

-- ---- pieces

-- The 8,192 bytes of a piece: the seed, the piece's number and the generation, 1,984 drawn bytes, 6,190 zeros, and two bytes
-- that end a secret where they stand behind zeros.
unfoldable pub piece_of : ℕ → ℕ → ℕ → List ℕ
piece_of seed piece generation =
    to_be_bytes w64 seed ++ to_be_bytes w32 piece ++ to_be_bytes w32 generation
    ++ drawn (first_state seed piece generation) 1984 ++ replicate 6190 0 ++ 31 ∷ 255 ∷ []

-- The generation of a piece in a version: the greatest number from 1 to the version that leaves the piece's remainder by 8, or 0
-- where there is none. So each version changes each eighth piece.
unfoldable pub generation_in : ℕ → ℕ → ℕ
generation_in zero piece = 0
generation_in (suc before) piece = if suc before % 8 == piece % 8 then suc before else generation_in before piece

-- the file of a version, of so many pieces
unfoldable pub file_of : ℕ → ℕ → ℕ → List ℕ
file_of seed pieces version =
    flat_map (λ piece. piece_of seed piece (generation_in version piece)) (range_with_len 0 pieces)

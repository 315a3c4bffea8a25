-- How long a file is, and that it is made of bytes.
use Rattle.std.proofs.Common.{◌≡◌, ℕ, zero, suc, ◌+◌, ◌*◌, ◌%◌, ◌<◌, List, [], ◌∷◌, ◌++◌, length, refl, sym, ap, ◌∙◌, subst, arith}
use Rattle.std.specs.Prelude.{All, replicate}
use Rattle.std.specs.List.{flat_map, range_with_len}
use Rattle.std.specs.Int.{w32, w64, to_be_bytes}
use Rattle.std.proofs.lemmas.List.{length-append, length-replicate}
use Rattle.std.proofs.lemmas.List.Elements.{All-nil, All-cons, All-append, All-replicate, All-from_recursion}
use Rattle.generated_session.specs.Drawn.{next_state, drawn, first_state, piece_of, generation_in, file_of}

abbrev pub IsByte : ℕ → Type 0
IsByte b = b < 256

drawn_len : (count state : ℕ) → length (drawn state count) ≡ count
unfolding drawn
drawn_len zero state = refl
drawn_len (suc count) state = ap suc (drawn_len count (next_state state))

drawn_bytes : (count state : ℕ) → All IsByte (drawn state count)
unfolding drawn
drawn_bytes zero state = All-nil IsByte
drawn_bytes (suc count) state = All-cons IsByte (next_state state % 256) (drawn (next_state state) count) (omega arith) (drawn_bytes count (next_state state))

eight : (n : ℕ) → length (to_be_bytes w64 n) ≡ 8
eight n = refl

four : (n : ℕ) → length (to_be_bytes w32 n) ≡ 4
four n = refl

eight_bytes : (n : ℕ) → All IsByte (to_be_bytes w64 n)
eight_bytes n = All-from_recursion IsByte (to_be_bytes w64 n) (omega arith, (omega arith, (omega arith, (omega arith, (omega arith, (omega arith, (omega arith, (omega arith, tt))))))))

four_bytes : (n : ℕ) → All IsByte (to_be_bytes w32 n)
four_bytes n = All-from_recursion IsByte (to_be_bytes w32 n) (omega arith, (omega arith, (omega arith, (omega arith, tt))))

piece_len : (seed piece generation : ℕ) → length (piece_of seed piece generation) ≡ 8192
unfolding piece_of
piece_len seed piece generation =
    let a = to_be_bytes w64 seed in
    let b = to_be_bytes w32 piece in
    let c = to_be_bytes w32 generation in
    let d = drawn (first_state seed piece generation) 1984 in
    let z : List ℕ = replicate 6190 0 in
    let last : List ℕ = 31 ∷ 255 ∷ [] in
    let two : length last ≡ 2 = refl in
    let zero_byte : ℕ = 0 in
    let zeros : length z ≡ 6190 = length-replicate 6190 zero_byte in
    omega (
      arith,
      eight seed,
      four piece,
      four generation,
      drawn_len 1984 (first_state seed piece generation),
      zeros,
      two,
      length-append a b,
      length-append (a ++ b) c,
      length-append (a ++ b ++ c) d,
      length-append (a ++ b ++ c ++ d) z,
      length-append (a ++ b ++ c ++ d ++ z) last,
    )

piece_bytes : (seed piece generation : ℕ) → All IsByte (piece_of seed piece generation)
unfolding piece_of
piece_bytes seed piece generation =
    let a = to_be_bytes w64 seed in
    let b = to_be_bytes w32 piece in
    let c = to_be_bytes w32 generation in
    let d = drawn (first_state seed piece generation) 1984 in
    let z : List ℕ = replicate 6190 0 in
    let last : List ℕ = 31 ∷ 255 ∷ [] in
    let zero_byte : ℕ = 0 in
    All-append IsByte (a ++ b ++ c ++ d ++ z) last
    (All-append IsByte (a ++ b ++ c ++ d) z
    (All-append IsByte (a ++ b ++ c) d
    (All-append IsByte (a ++ b) c (All-append IsByte a b (eight_bytes seed) (four_bytes piece)) (four_bytes generation))
    (drawn_bytes 1984 (first_state seed piece generation)))
    (All-replicate IsByte 6190 zero_byte (omega arith)))
    (All-cons IsByte 31 (255 ∷ []) (omega arith) (All-cons IsByte 255 [] (omega arith) (All-nil IsByte)))

len_from : (f : ℕ → List ℕ) (a n : ℕ) → ((k : ℕ) → length (f k) ≡ 8192) → length (flat_map f (range_with_len a n)) ≡ n * 8192
len_from f a zero each = refl
len_from f a (suc n) each =
    omega (arith, length-append (f a) (flat_map f (range_with_len (a + 1) n)), each a, len_from f (a + 1) n each)

bytes_from : (f : ℕ → List ℕ) (a n : ℕ) → ((k : ℕ) → All IsByte (f k)) → All IsByte (flat_map f (range_with_len a n))
bytes_from f a zero each = All-nil IsByte
bytes_from f a (suc n) each = All-append IsByte (f a) (flat_map f (range_with_len (a + 1) n)) (each a) (bytes_from f (a + 1) n each)

pub file_len : (seed pieces version : ℕ) → length (file_of seed pieces version) ≡ pieces * 8192
unfolding file_of
file_len seed pieces version =
    len_from (λ piece. piece_of seed piece (generation_in version piece)) 0 pieces (λ piece. piece_len seed piece (generation_in version piece))

pub file_bytes : (seed pieces version : ℕ) → All IsByte (file_of seed pieces version)
unfolding file_of
file_bytes seed pieces version =
    bytes_from (λ piece. piece_of seed piece (generation_in version piece)) 0 pieces (λ piece. piece_bytes seed piece (generation_in version piece))

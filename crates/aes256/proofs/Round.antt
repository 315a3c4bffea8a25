-- A round on planes is the standard's round on each block.
use Rattle.std.proofs.Common.{◌≡◌, ℕ, ◌+◌, ◌*◌, ◌/◌, ◌%◌, ◌<◌, T, eqb, eqb→eq, List, ◌++◌, map, length, get_or, bit_xor, refl, sym, ap, subst, ◌∙◌, arith, zero-add}
use Rattle.std.specs.Prelude.{slice_index}
use Rattle.std.specs.List.{range_with_len}
use Rattle.std.proofs.Math.ListN.{get_or-append}
use Rattle.std.proofs.lemmas.List.{get_or-map}
use Rattle.std.proofs.lemmas.List.FromFn.{get_or-range_with_len}
use Rattle.std.proofs.lemmas.Simd.{get_or-zip2, length-zip2}
use Rattle.aes256.specs.declared.planes.Planes.{Planes}
use Rattle.gf256.specs.Field.{product}
use Rattle.aes256.specs.Cipher.{added, at, mix_columns, s_box, shift_rows, state_of, sub_bytes}
use Rattle.aes256.specs.Planes.{IsBlock, IsRoundKey, bit_of, byte_at, lanes_at, mixed_byte, next_row, shifted}
use Rattle.aes256.proofs.Circuit.{all_below, every_below, number-lt, bits-small}
use Rattle.aes256.proofs.Xor.{xor_pair, mix_sum, mix_constant, s_box-lt}

pub next_row-lt : (p : ℕ) → p < 16 → next_row p < 16
next_row-lt p lt = omega arith

pub shifted-lt : (p : ℕ) → p < 16 → shifted p < 16
shifted-lt p lt = omega arith

-- lanes taken by position
pub picked_lanes : (x ks : List ℕ) (f : ℕ → ℕ) → length x ≡ 16 → length ks ≡ 16
    → T (all_below (λ p. eqb (get_or ks p 0) (f p)) 16) → ((p : ℕ) → p < 16 → f p < 16) → (p : ℕ) → p < 16
    → get_or (map (λ j. get_or (x ++ x) j 0) ks) p 0 ≡ get_or x (f p) 0
picked_lanes x ks f long count table within p lt =
    get_or-map (λ j. get_or (x ++ x) j 0) ks p 0 0 (omega arith)
    ∙ ap (λ (j : ℕ). get_or (x ++ x) j 0) (eqb→eq _ _ (every_below (λ p. eqb (get_or ks p 0) (f p)) 16 table p lt))
    ∙ get_or-append x x 0 (f p) (omega (arith, within p lt))

pub byte_at-lt : (s : Planes) (k p : ℕ) → byte_at s k p < 256
unfolding byte_at
byte_at-lt s k p = number-lt (map (bit_of k) (lanes_at s p)) (bits-small k (lanes_at s p))

pub state_of-at : (f : ℕ → ℕ → ℕ) (q : ℕ) → q < 16 → slice_index (state_of f) q ≡ f (q % 4) (q / 4)
state_of-at f q lt =
    let e = get_or-range_with_len 0 16 q 0 lt ∙ zero-add q in
    get_or-map (λ i. f (i % 4) (i / 4)) (range_with_len 0 16) q 0 0 lt ∙ ap (λ (i : ℕ). f (i % 4) (i / 4)) e

pub sub_bytes-at : (s : List ℕ) (q : ℕ) → length s ≡ 16 → q < 16 → slice_index (sub_bytes s) q ≡ s_box (slice_index s q)
sub_bytes-at s q long lt = get_or-map s_box s q 0 0 (omega arith)

pub shift_rows-at : (s : List ℕ) (q : ℕ) → q < 16 → slice_index (shift_rows s) q ≡ slice_index s (shifted q)
shift_rows-at s q lt = state_of-at (λ r c. at s r ((c + r) % 4)) q lt

pub added-at : (s k : List ℕ) (q : ℕ) → length s ≡ 16 → length k ≡ 16 → q < 16 → slice_index (added s k) q ≡ bit_xor (slice_index s q) (slice_index k q)
added-at s k q long longer lt = get_or-zip2 bit_xor s k q 0 0 0 (omega arith) (omega arith)

rows_two : (p : ℕ) → p < 16 → 4 * (p / 4) + (p % 4 + 2) % 4 ≡ next_row (next_row p)
rows_two p lt = eqb→eq _ _ (every_below (λ p. eqb (4 * (p / 4) + (p % 4 + 2) % 4) (next_row (next_row p))) 16 tt p lt)

rows_three : (p : ℕ) → p < 16 → 4 * (p / 4) + (p % 4 + 3) % 4 ≡ next_row (next_row (next_row p))
rows_three p lt = eqb→eq _ _ (every_below (λ p. eqb (4 * (p / 4) + (p % 4 + 3) % 4) (next_row (next_row (next_row p)))) 16 tt p lt)

same_row : (p : ℕ) → 4 * (p / 4) + p % 4 ≡ p
same_row p = omega arith

-- MixColumns, as the code sums it
pub mix_columns-at : (s : List ℕ) (p : ℕ) → p < 16 → ((q : ℕ) → q < 16 → slice_index s q < 256)
    → slice_index (mix_columns s) p ≡ mixed_byte (slice_index s) p
mix_columns-at s p lt small =
    state_of-at (λ r c. bit_xor (bit_xor (bit_xor (product 2 (at s r c)) (product 3 (at s ((r + 1) % 4) c))) (at s ((r + 2) % 4) c)) (at s ((r + 3) % 4) c)) p lt
    ∙ (λ t. bit_xor (bit_xor (bit_xor (product 2 (slice_index s (same_row p t))) (product 3 (slice_index s (next_row p)))) (slice_index s (rows_two p lt t))) (slice_index s (rows_three p lt t)))
    ∙ mix_sum (slice_index s p) (slice_index s (next_row p)) (slice_index s (next_row (next_row p))) (slice_index s (next_row (next_row (next_row p))))
    (small (next_row p) (next_row-lt p lt))

module _ (before replaced after key : Planes) (k : ℕ) (state words : List ℕ)
    (is_block : IsBlock before k state) (is_key : IsRoundKey key k words)
    (substituted : (p : ℕ) → p < 16 → byte_at replaced k p ≡ bit_xor (s_box (byte_at before k p)) 0x63) where
  sub_at : (q : ℕ) → q < 16 → byte_at replaced k q ≡ bit_xor (slice_index (sub_bytes state) q) 0x63
  sub_at q lt = substituted q lt ∙ ap (λ (x : ℕ). bit_xor (s_box x) 0x63) (is_block.same q lt) ∙ ap (λ (x : ℕ). bit_xor x 0x63) (sym (sub_bytes-at state q is_block.long lt))

  shift_at : (q : ℕ) → q < 16 → byte_at replaced k (shifted q) ≡ bit_xor (slice_index (shift_rows (sub_bytes state)) q) 0x63
  shift_at q lt = sub_at (shifted q) (shifted-lt q lt) ∙ ap (λ (x : ℕ). bit_xor x 0x63) (sym (shift_rows-at (sub_bytes state) q lt))

  state-lt : (q : ℕ) → q < 16 → slice_index (shift_rows (sub_bytes state)) q < 256
  state-lt q lt =
      let small : slice_index state (shifted q) < 256 = subst (λ x. x < 256) (is_block.same (shifted q) (shifted-lt q lt)) (byte_at-lt before k (shifted q)) in
      let e = shift_rows-at (sub_bytes state) q lt ∙ sub_bytes-at state (shifted q) is_block.long (shifted-lt q lt) in
      subst (λ x. x < 256) (sym e) (s_box-lt (slice_index state (shifted q)) small)

  pub last_round_right : ((p : ℕ) → p < 16 → byte_at after k p ≡ bit_xor (byte_at replaced k (shifted p)) (byte_at key k p))
      → IsBlock after k (added (shift_rows (sub_bytes state)) words)
  last_round_right finished = record {
    long = length-zip2 bit_xor (shift_rows (sub_bytes state)) words (sym is_key.long);
    same = λ p lt. finished p lt ∙ (λ t. bit_xor (shift_at p lt t) (is_key.same p lt t))
        ∙ xor_pair (slice_index (shift_rows (sub_bytes state)) p) (slice_index words p) 0x63
        ∙ sym (added-at (shift_rows (sub_bytes state)) words p refl is_key.long lt);
  }

  pub round_right : ((p : ℕ) → p < 16 → byte_at after k p ≡ bit_xor (mixed_byte (λ q. byte_at replaced k (shifted q)) p) (byte_at key k p))
      → IsBlock after k (added (mix_columns (shift_rows (sub_bytes state))) words)
  round_right mixed = record {
    long = length-zip2 bit_xor (mix_columns (shift_rows (sub_bytes state))) words (sym is_key.long);
    same = λ p lt.
        let f : ℕ → ℕ = slice_index (shift_rows (sub_bytes state)) in
        let q : ℕ = next_row p in
        let q_lt : q < 16 = next_row-lt p lt in
        let r : ℕ = next_row q in
        let r_lt : r < 16 = next_row-lt q q_lt in
        let u : ℕ = next_row r in
        let u_lt : u < 16 = next_row-lt r r_lt in
        let shifts : mixed_byte (λ q. byte_at replaced k (shifted q)) p ≡ mixed_byte (λ q. bit_xor (f q) 0x63) p =
        λ t. bit_xor (bit_xor (shift_at q q_lt t) (bit_xor (shift_at r r_lt t) (shift_at u u_lt t))) (product 2 (bit_xor (shift_at p lt t) (shift_at q q_lt t))) in
        let mixing : mixed_byte (λ q. byte_at replaced k (shifted q)) p ≡ bit_xor (slice_index (mix_columns (shift_rows (sub_bytes state))) p) 0x63 =
        shifts ∙ mix_constant (f q) (f r) (f u) (f p) 0x63 ∙ ap (λ (x : ℕ). bit_xor x 0x63) (sym (mix_columns-at (shift_rows (sub_bytes state)) p lt state-lt)) in
        mixed p lt ∙ (λ t. bit_xor (mixing t) (is_key.same p lt t))
        ∙ xor_pair (slice_index (mix_columns (shift_rows (sub_bytes state))) p) (slice_index words p) 0x63
        ∙ sym (added-at (mix_columns (shift_rows (sub_bytes state))) words p refl is_key.long lt);
  }

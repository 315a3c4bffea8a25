-- Products lane by lane, by two tables of sixteen.
use Rattle.std.proofs.Common.{◌≡◌, ℕ, zero, suc, ◌+◌, ◌*◌, ◌/◌, ◌%◌, ◌^◌, ◌<◌, List, [], ◌∷◌, length, get_or, slice_index, replicate, bit_and, bit_xor, refl, sym, ap, ◌∙◌, arith, w8, Fits, take, drop, take_all}
use Rattle.std.proofs.lemmas.Nat.{and_le_r, and_mask, xor_comm}
use Rattle.std.proofs.lemmas.Simd.{Each1-all, Each1-weaker, Each1-zip2, Each2-splat, below_from_Fits, length-zip2, get_or-zip2, get_or-replicate, swz_l, SwzOk, SwzOk-from_below, length-swz_l, get_or-swz_l_below}
use Rattle.std.proofs.lemmas.List.{get_or-take, get_or-drop}
use lib.Lanes.{zip2, chunk, Each1}
use Rattle.gf256.specs.Field.{product}
use Rattle.gf256.proofs.Bilinear.{product_right, split_top}

abbrev pub IsVector : List ℕ → Type 0
IsVector v = (length v ≡ 16) × Each1 (Fits w8) v

pub lane_fits : (v : List ℕ) (i : ℕ) → Each1 (Fits w8) v → get_or v i 0 < 256
lane_fits [] i h = omega arith
lane_fits (x ∷ xs) zero h = h.0.fits
lane_fits (x ∷ xs) (suc i) h = lane_fits xs i h.1

abbrev pub down : ℕ → ℕ → ℕ
down a b = a / 2 ^ b

pub high_ok : (v : List ℕ) → IsVector v → SwzOk w8 16 16 0 (zip2 down v (replicate 16 4))
high_ok v fits =
    let small = Each1-weaker (λ a. a < 256) (λ a. a / 16 < 16) (λ a h. omega arith) v (below_from_Fits w8 v fits.1) in
    SwzOk-from_below w8 16 1 16 0 (zip2 down v (replicate 16 4)) refl (omega (arith, length-zip2 down v (replicate 16 4) fits.0))
    (Each1-zip2 down (λ j. j < 16) v (replicate 16 4) (Each2-splat (λ a b. down a b < 16) v 16 4 small))

pub low_ok : (v : List ℕ) → IsVector v → SwzOk w8 16 16 0 (zip2 bit_and v (replicate 16 15))
low_ok v fits =
    let small = Each1-all (λ a. bit_and a 15 < 16) (λ a. omega (arith, and_le_r a 15)) v in
    SwzOk-from_below w8 16 1 16 0 (zip2 bit_and v (replicate 16 15)) refl (omega (arith, length-zip2 bit_and v (replicate 16 15) fits.0))
    (Each1-zip2 bit_and (λ j. j < 16) v (replicate 16 15) (Each2-splat (λ a b. bit_and a b < 16) v 16 15 small))

looked_up : (table js : List ℕ) (i j : ℕ) → length js ≡ 16 → i < 16 → get_or js i 0 ≡ j → j < 16 → get_or (swz_l w8 16 table 0 js) i 0 ≡ get_or table j 0
looked_up table js i j long h e small =
    let first : 16 * ((0 + i) / 16) + get_or js i 0 ≡ j = omega arith in
    get_or-swz_l_below w8 16 table 0 js i (omega arith) (omega arith) ∙ ap (λ (z : ℕ). get_or table z 0) first

low_lane : (low s : List ℕ) (i : ℕ) → IsVector s → i < 16
    → get_or (swz_l w8 16 low 0 (zip2 bit_and s (replicate 16 15))) i 0 ≡ get_or low (get_or s i 0 % 16) 0
low_lane low s i fits h =
    let js : List ℕ = zip2 bit_and s (replicate 16 15) in
    let at : get_or js i 0 ≡ bit_and (get_or s i 0) 15 = get_or-zip2 bit_and s (replicate 16 15) i 0 0 0 (omega (arith, fits.0)) h ∙ ap (λ (z : ℕ). bit_and (get_or s i 0) z) (get_or-replicate 16 i 15 0 h) in
    let is : get_or js i 0 ≡ get_or s i 0 % 16 = at ∙ and_mask (get_or s i 0) 4 in
    looked_up low js i (get_or s i 0 % 16) (length-zip2 bit_and s (replicate 16 15) fits.0 ∙ fits.0) h is (omega arith)

high_lane : (high s : List ℕ) (i : ℕ) → IsVector s → i < 16
    → get_or (swz_l w8 16 high 0 (zip2 down s (replicate 16 4))) i 0 ≡ get_or high (get_or s i 0 / 16) 0
high_lane high s i fits h =
    let js : List ℕ = zip2 down s (replicate 16 4) in
    let is : get_or js i 0 ≡ get_or s i 0 / 16 = get_or-zip2 down s (replicate 16 4) i 0 0 0 (omega (arith, fits.0)) h ∙ ap (λ (z : ℕ). down (get_or s i 0) z) (get_or-replicate 16 i 4 0 h) in
    let byte : get_or s i 0 < 256 = lane_fits s i fits.1 in
    looked_up high js i (get_or s i 0 / 16) (length-zip2 down s (replicate 16 4) fits.0 ∙ fits.0) h is (omega arith)

pub lane_added : (low high s t : List ℕ) (i : ℕ) → IsVector s → length t ≡ 16 → i < 16
    → get_or (zip2 bit_xor t (zip2 bit_xor (swz_l w8 16 low 0 (zip2 bit_and s (replicate 16 15))) (swz_l w8 16 high 0 (zip2 down s (replicate 16 4))))) i 0
    ≡ bit_xor (get_or t i 0) (bit_xor (get_or low (get_or s i 0 % 16) 0) (get_or high (get_or s i 0 / 16) 0))
lane_added low high s t i fits long h =
    let js : List ℕ = zip2 bit_and s (replicate 16 15) in
    let ks : List ℕ = zip2 down s (replicate 16 4) in
    let lows : List ℕ = swz_l w8 16 low 0 js in
    let highs : List ℕ = swz_l w8 16 high 0 ks in
    let n : length lows ≡ 16 = length-swz_l w8 16 low 0 js ∙ length-zip2 bit_and s (replicate 16 15) fits.0 ∙ fits.0 in
    let m : length highs ≡ 16 = length-swz_l w8 16 high 0 ks ∙ length-zip2 down s (replicate 16 4) fits.0 ∙ fits.0 in
    let both : length (zip2 bit_xor lows highs) ≡ 16 = length-zip2 bit_xor lows highs (n ∙ sym m) ∙ n in
    get_or-zip2 bit_xor t (zip2 bit_xor lows highs) i 0 0 0 (omega arith) (omega arith)
    ∙ ap (λ (z : ℕ). bit_xor (get_or t i 0) z)
    (get_or-zip2 bit_xor lows highs i 0 0 0 (omega arith) (omega arith)
    ∙ ap (λ (z : ℕ). bit_xor z (get_or highs i 0)) (low_lane low s i fits h)
    ∙ ap (λ (z : ℕ). bit_xor (get_or low (get_or s i 0 % 16) 0) z) (high_lane high s i fits h))

-- a product by its halves
pub product_halves : (c x : ℕ) → product c x ≡ bit_xor (product c (x % 16)) (product c (x / 16 * 16))
product_halves c x =
    ap (λ (z : ℕ). product c z) (split_top 4 x) ∙ product_right c (x / 16 * 16) (x % 16) ∙ xor_comm (product c (x / 16 * 16)) (product c (x % 16))

-- the tables of sixteen give a byte's product
pub from_halves : (low high : List ℕ) (c x : ℕ) → ((j : ℕ) → j < 16 → slice_index low j ≡ product c (j * 1)) → ((j : ℕ) → j < 16 → slice_index high j ≡ product c (j * 16))
    → x < 256 → bit_xor (slice_index low (x % 16)) (slice_index high (x / 16)) ≡ product c x
from_halves low high c x hl hh byte =
    let one : x % 16 * 1 ≡ x % 16 = omega arith in
    rw (hl (x % 16) (omega arith), hh (x / 16) (omega arith), one) (sym (product_halves c x))

pub lanes_long : (low high s t : List ℕ) → IsVector s → length t ≡ 16
    → length (zip2 bit_xor t (zip2 bit_xor (swz_l w8 16 low 0 (zip2 bit_and s (replicate 16 15))) (swz_l w8 16 high 0 (zip2 down s (replicate 16 4))))) ≡ 16
lanes_long low high s t fits long =
    let js : List ℕ = zip2 bit_and s (replicate 16 15) in
    let ks : List ℕ = zip2 down s (replicate 16 4) in
    let lows : List ℕ = swz_l w8 16 low 0 js in
    let highs : List ℕ = swz_l w8 16 high 0 ks in
    let n : length lows ≡ 16 = length-swz_l w8 16 low 0 js ∙ length-zip2 bit_and s (replicate 16 15) fits.0 ∙ fits.0 in
    let m : length highs ≡ 16 = length-swz_l w8 16 high 0 ks ∙ length-zip2 down s (replicate 16 4) fits.0 ∙ fits.0 in
    let both : length (zip2 bit_xor lows highs) ≡ 16 = length-zip2 bit_xor lows highs (n ∙ sym m) ∙ n in
    length-zip2 bit_xor t (zip2 bit_xor lows highs) (long ∙ sym both) ∙ long

pub chunk_whole : (xs : List ℕ) → length xs ≡ 16 → chunk 0 16 xs ≡ xs
chunk_whole xs long = take_all 16 xs (omega arith)

pub part_byte : (xs : List ℕ) (a n j : ℕ) → get_or xs (a + j) 0 < 256 → j < n → get_or (take n (drop a xs)) j 0 < 256
part_byte xs a n j h l = rw (get_or-take n (drop a xs) j 0 l, get_or-drop a xs j 0) h

-- The laws of a mask.
use Rattle.std.proofs.Common.{◌≡◌, ℕ, zero, suc, ◌+◌, ◌-◌, ◌*◌, ◌/◌, ◌%◌, ◌<◌, ◌≤◌, Bool, true, false, cond, List, [], ◌∷◌, ◌++◌, length, take, drop, map, bit_xor, refl, sym, ap, subst, ◌∙◌, inl, inr, arith, eqb, length-append}
use Rattle.std.specs.Prelude.{slice_index}
use Rattle.std.specs.List.{All, range_with_len}
use Rattle.std.proofs.lemmas.List.Elements.{All-from_get_or}
use Rattle.std.specs.Int.Bits.{xor_assoc, xor_self, xor_zero_r}
use Rattle.std.proofs.Math.ListN.{get_or-append}
use Rattle.std.proofs.Math.Seq.{get_or-append_right}
use Rattle.std.proofs.lemmas.Bool.{cases_lt}
use Rattle.std.proofs.lemmas.List.{get_or-take, length-take-le, ext_get_or}
use Rattle.std.proofs.lemmas.Nat.{xor_lt}
use Rattle.std.proofs.lemmas.Simd.{get_or-zip2, length-zip2}
use Rattle.gf256.specs.Field.{inverse, power}
use Rattle.gf256.proofs.Laws.{product_lt}
use Rattle.aes256.specs.Cipher.{added, affine_bit, at, cipher, cipher_with, key_words, rot_word, round_constant, round_key, rounds, s_box, shift_rows, step_of, sub_bytes, word}
use Rattle.aes256.specs.Mask.{counter_block, mask, mask_blocks}
use Rattle.aes256.proofs.Circuit.{number-lt}
use Rattle.aes256.proofs.Keys.{length-key_words, round_key-length}
use Rattle.aes256.proofs.MaskBytes.{mask_byte}

pub length-cipher : (h text : List ℕ) → length h ≡ 32 → length (cipher h text) ≡ 16
unfolding cipher_with
length-cipher h text long =
    let words : List ℕ = key_words h 52 in
    length-zip2 bit_xor (shift_rows (sub_bytes (rounds words text 13))) (round_key words 14) (sym (round_key-length words 14 (length-key_words h 52 long) (omega arith)))

length-mask_blocks : (h : List ℕ) (n : ℕ) → length h ≡ 32 → length (mask_blocks h n) ≡ 16 * n
unfolding mask_blocks
length-mask_blocks h zero long = refl
length-mask_blocks h (suc n) long =
    let before = length-mask_blocks h n long in
    let one = length-cipher h (counter_block n) long in
    omega (arith, before, one, length-append (mask_blocks h n) (cipher h (counter_block n)))

mask_blocks-at : (h : List ℕ) (n i : ℕ) → length h ≡ 32 → i < 16 * n → slice_index (mask_blocks h n) i ≡ mask_byte h i
unfolding mask_blocks
mask_blocks-at h zero i long lt = absurd (omega arith)
mask_blocks-at h (suc n) i long lt =
    let before : length (mask_blocks h n) ≡ 16 * n = length-mask_blocks h n long in
    elim (cases_lt i (16 * n)) [
      | inl b ↦ get_or-append (mask_blocks h n) (cipher h (counter_block n)) 0 i (omega (arith, before)) ∙ mask_blocks-at h n i long b
      | inr g ↦
          let block : n ≡ i / 16 = omega arith in
          let byte : i - 16 * n ≡ i % 16 = omega arith in
          get_or-append_right (mask_blocks h n) (cipher h (counter_block n)) i 0 (omega (arith, before))
          ∙ ap (λ (l : ℕ). slice_index (cipher h (counter_block n)) (i - l)) before
          ∙ (λ t. slice_index (cipher h (counter_block (block t))) (byte t))
    ]

-- a mask has the length that was asked for
pub length-mask : (h : List ℕ) (len : ℕ) → length h ≡ 32 → length (mask h len) ≡ len
unfolding mask
length-mask h len long = length-take-le len (mask_blocks h ((len + 15) / 16)) (omega (arith, length-mask_blocks h ((len + 15) / 16) long))

-- byte i of a mask is byte i % 16 of the cipher text of the counter i / 16
pub mask-at : (h : List ℕ) (len i : ℕ) → length h ≡ 32 → i < len → slice_index (mask h len) i ≡ mask_byte h i
unfolding mask
mask-at h len i long lt = get_or-take len (mask_blocks h ((len + 15) / 16)) i 0 lt ∙ mask_blocks-at h ((len + 15) / 16) i long (omega arith)

-- a mask begins every longer mask of its key
pub take-mask : (h : List ℕ) (len longer : ℕ) → length h ≡ 32 → len ≤ longer → take len (mask h longer) ≡ mask h len
take-mask h len longer long le =
    let taken : length (take len (mask h longer)) ≡ len = length-take-le len (mask h longer) (omega (arith, length-mask h longer long)) in
    ext_get_or 0 _ _ (taken ∙ sym (length-mask h len long)) (λ i lt.
    let below : i < len = omega (arith, taken) in
    get_or-take len (mask h longer) i 0 below ∙ mask-at h longer i long (omega arith) ∙ sym (mask-at h len i long below))

-- what the bytes of a text have to be, for the text to be a sum with a mask
pub finished : (h old new : List ℕ) → length h ≡ 32 → length new ≡ length old
    → ((q : ℕ) → q < length old → slice_index new q ≡ bit_xor (slice_index old q) (mask_byte h q)) → new ≡ added old (mask h (length old))
finished h old new long same bytes =
    let m : List ℕ = mask h (length old) in
    let lm : length m ≡ length old = length-mask h (length old) long in
    let ls : length (added old m) ≡ length old = length-zip2 bit_xor old m (sym lm) in
    ext_get_or 0 _ _ (same ∙ sym ls) (λ q lt.
    let below : q < length old = omega (arith, same) in
    bytes q below ∙ ap (bit_xor (slice_index old q)) (sym (mask-at h (length old) q long below))
    ∙ sym (get_or-zip2 bit_xor old m q 0 0 0 below (omega (arith, lm))))

-- a sum undoes itself
pub added_twice : (s k : List ℕ) → length s ≡ length k → added (added s k) k ≡ s
added_twice [] k e = refl
added_twice (x ∷ s) [] e = absurd (omega arith)
added_twice (x ∷ s) (y ∷ k) e = λ t. (xor_assoc x y y ∙ ap (bit_xor x) (xor_self y) ∙ xor_zero_r x) t ∷ added_twice s k (omega arith) t

-- ---- bytes
abbrev pub AreBytes : List ℕ → Type 0
AreBytes xs = (i : ℕ) → slice_index xs i < 256

pub AreBytes-append : (xs ys : List ℕ) → AreBytes xs → AreBytes ys → AreBytes (xs ++ ys)
AreBytes-append xs ys f g i = elim (cases_lt i (length xs)) [
  | inl b ↦ subst (λ (v : ℕ). v < 256) (sym (get_or-append xs ys 0 i b)) (f i)
  | inr h ↦ subst (λ (v : ℕ). v < 256) (sym (get_or-append_right xs ys i 0 h)) (g (i - length xs))
]

pub AreBytes-added : (xs ys : List ℕ) → AreBytes xs → AreBytes ys → AreBytes (added xs ys)
AreBytes-added [] ys f g i = omega arith
AreBytes-added (x ∷ xs) [] f g i = omega arith
AreBytes-added (x ∷ xs) (y ∷ ys) f g zero = xor_lt 8 x y (f 0) (g 0)
AreBytes-added (x ∷ xs) (y ∷ ys) f g (suc i) = AreBytes-added xs ys (λ j. f (suc j)) (λ j. g (suc j)) i

AreBytes-four : (a b c d : ℕ) → a < 256 → b < 256 → c < 256 → d < 256 → AreBytes (a ∷ b ∷ c ∷ d ∷ [])
AreBytes-four a b c d p q r s zero = p
AreBytes-four a b c d p q r s (suc zero) = q
AreBytes-four a b c d p q r s (suc (suc zero)) = r
AreBytes-four a b c d p q r s (suc (suc (suc zero))) = s
AreBytes-four a b c d p q r s (suc (suc (suc (suc i)))) = omega arith

AreBytes-map : (f : ℕ → ℕ) (xs : List ℕ) → ((x : ℕ) → f x < 256) → AreBytes (map f xs)
AreBytes-map f [] h i = omega arith
AreBytes-map f (x ∷ xs) h zero = h x
AreBytes-map f (x ∷ xs) h (suc i) = AreBytes-map f xs h i

AreBytes-take : (n : ℕ) (xs : List ℕ) → AreBytes xs → AreBytes (take n xs)
AreBytes-take zero xs h i = omega arith
AreBytes-take (suc n) [] h i = omega arith
AreBytes-take (suc n) (x ∷ xs) h zero = h 0
AreBytes-take (suc n) (x ∷ xs) h (suc i) = AreBytes-take n xs (λ j. h (suc j)) i

AreBytes-drop : (n : ℕ) (xs : List ℕ) → AreBytes xs → AreBytes (drop n xs)
AreBytes-drop zero xs h i = h i
AreBytes-drop (suc n) [] h i = omega arith
AreBytes-drop (suc n) (x ∷ xs) h i = AreBytes-drop n xs (λ j. h (suc j)) i

AreBytes-cond : (b : Bool) (xs ys : List ℕ) → AreBytes xs → AreBytes ys → AreBytes (cond b xs ys)
AreBytes-cond true xs ys f g = f
AreBytes-cond false xs ys f g = g

s_box_byte : (a : ℕ) → s_box a < 256
unfolding s_box
s_box_byte a = number-lt (map (affine_bit (inverse a)) (range_with_len 0 8))
    (omega arith, (omega arith, (omega arith, (omega arith, (omega arith, (omega arith, (omega arith, (omega arith, tt))))))))

power_byte : (a n : ℕ) → power a n < 256
unfolding power
power_byte a zero = omega arith
power_byte a (suc n) = product_lt a (power a n)

AreBytes-step_of : (i : ℕ) (w : List ℕ) → AreBytes w → AreBytes (step_of i w)
AreBytes-step_of i w h =
    AreBytes-cond (eqb (i % 8) 0) _ _
    (AreBytes-added (map s_box (rot_word w)) (round_constant (i / 8)) (AreBytes-map s_box (rot_word w) s_box_byte)
    (AreBytes-four (power 2 (i / 8 - 1)) 0 0 0 (power_byte 2 (i / 8 - 1)) (omega arith) (omega arith) (omega arith)))
    (AreBytes-cond (eqb (i % 8) 4) _ _ (AreBytes-map s_box w s_box_byte) h)

AreBytes-word : (ws : List ℕ) (n : ℕ) → AreBytes ws → AreBytes (word ws n)
AreBytes-word ws n h = AreBytes-four (slice_index ws (4 * n)) (slice_index ws (4 * n + 1)) (slice_index ws (4 * n + 2)) (slice_index ws (4 * n + 3))
    (h (4 * n)) (h (4 * n + 1)) (h (4 * n + 2)) (h (4 * n + 3))

AreBytes-key_words : (key : List ℕ) (n : ℕ) → AreBytes key → AreBytes (key_words key n)
unfolding key_words
AreBytes-key_words key zero h = h
AreBytes-key_words key (suc n) h =
    let ws : List ℕ = key_words key n in
    let before : AreBytes ws = AreBytes-key_words key n h in
    AreBytes-append ws _ before (AreBytes-added (word ws n) (step_of (n + 8) (word ws (n + 7)))
    (AreBytes-word ws n before) (AreBytes-step_of (n + 8) (word ws (n + 7)) (AreBytes-word ws (n + 7) before)))

AreBytes-cipher : (h text : List ℕ) → AreBytes h → AreBytes (cipher h text)
unfolding cipher_with
AreBytes-cipher h text bytes =
    let words : List ℕ = key_words h 52 in
    let s : List ℕ = sub_bytes (rounds words text 13) in
    let replaced : AreBytes s = AreBytes-map s_box (rounds words text 13) s_box_byte in
    AreBytes-added (shift_rows s) (round_key words 14)
    (AreBytes-map (λ i. at s (i % 4) ((i / 4 + i % 4) % 4)) (range_with_len 0 16) (λ i. replaced (4 * ((i / 4 + i % 4) % 4) + i % 4)))
    (AreBytes-take 16 (drop (16 * 14) words) (AreBytes-drop (16 * 14) words (AreBytes-key_words h 52 bytes)))

-- each item of a mask is a byte
pub mask_bytes : (h : List ℕ) (len : ℕ) → length h ≡ 32 → AreBytes h → All (λ b. b < 256) (mask h len)
mask_bytes h len long bytes = All-from_get_or (λ b. b < 256) (mask h len) 0 (λ i lt.
    subst (λ (v : ℕ). v < 256) (sym (mask-at h len i long (omega (arith, length-mask h len long)))) (AreBytes-cipher h (counter_block (i / 16)) bytes (i % 16)))

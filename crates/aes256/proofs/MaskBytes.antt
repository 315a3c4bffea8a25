-- Masks over a text.
use Rattle.std.proofs.Common.{◌≡◌, ℕ, ◌+◌, ◌-◌, ◌*◌, ◌/◌, ◌%◌, ◌^◌, ◌<◌, ◌≤◌, List, [], ◌∷◌, ◌++◌, length, take, drop, get_or, refl, sym, ap, subst, ◌∙◌, arith, mod-lt}
use Rattle.std.specs.Prelude.{slice_index}
use Rattle.std.specs.List.{range_with_len}
use Rattle.std.proofs.Math.ListN.{get_or-append}
use Rattle.std.proofs.Math.Seq.{get_or-append_right}
use Rattle.std.proofs.lemmas.List.{get_or-map, get_or-take, get_or-drop, length-take-le}
use borrow.Rule.Slice.PartMut.{put_mid, post_of}
use Rattle.std.proofs.lemmas.Simd.{get_or-chunk}
use Rattle.std.proofs.lemmas.Bool.{cases_lt}
use Rattle.std.proofs.Common.{bit_xor, inl, inr}
use Rattle.aes256.specs.declared.planes.Planes.{Planes}
use Rattle.aes256.specs.Planes.{lanes_at}
use Rattle.aes256.specs.Cipher.{cipher, cipher_with, key_words}
use Rattle.aes256.specs.Mask.{counter_block}
use Rattle.aes256.proofs.Transpose.{by_eight}

-- byte i of the mask of a key: of the ciphers of 0, 1, .. in turn
abbrev pub mask_byte : List ℕ → ℕ → ℕ
mask_byte key i = slice_index (cipher key (counter_block (i / 16))) (i % 16)

pub counter_block-lt : (i p : ℕ) → p < 16 → slice_index (counter_block i) p < 256
unfolding counter_block
counter_block-lt i p lt =
    subst (λ (v : ℕ). v < 256) (sym (get_or-map (λ p. i / 256 ^ (15 - p) % 256) (range_with_len 0 16) p 0 0 lt)) (mod-lt _ (omega arith))

pub length-counter_block : (i : ℕ) → length (counter_block i) ≡ 16
unfolding counter_block
length-counter_block i = refl

module _ {X : Type 0} (a k : ℕ) (xs ys : List X) (d : X) (fits : a + length ys ≤ length xs) (same : k ≡ length ys) where
  front : length (take a xs) ≡ a
  front = length-take-le a xs (omega arith)

  pub put_mid-below : (q : ℕ) → q < a → get_or (put_mid a k xs ys) q d ≡ get_or xs q d
  put_mid-below q lt = get_or-append (take a xs) (ys ++ post_of a k xs) d q (omega (arith, front)) ∙ get_or-take a xs q d lt

  pub put_mid-at : (q : ℕ) → a ≤ q → q < a + length ys → get_or (put_mid a k xs ys) q d ≡ get_or ys (q - a) d
  put_mid-at q le lt =
      get_or-append_right (take a xs) (ys ++ post_of a k xs) q d (omega (arith, front))
      ∙ ap (λ (n : ℕ). get_or (ys ++ post_of a k xs) (q - n) d) front
      ∙ get_or-append ys (post_of a k xs) d (q - a) (omega arith)

  pub put_mid-above : (q : ℕ) → a + length ys ≤ q → get_or (put_mid a k xs ys) q d ≡ get_or xs q d
  put_mid-above q le =
      let e : a + (k + (q - a - length ys)) ≡ q = omega arith in
      get_or-append_right (take a xs) (ys ++ post_of a k xs) q d (omega (arith, front))
      ∙ ap (λ (n : ℕ). get_or (ys ++ post_of a k xs) (q - n) d) front
      ∙ get_or-append_right ys (post_of a k xs) (q - a) d (omega arith)
      ∙ get_or-drop k (drop a xs) (q - a - length ys) d ∙ get_or-drop a xs (k + (q - a - length ys)) d ∙ ap (λ (n : ℕ). get_or xs n d) e

-- the eight rows, by block
pub row_at : (blocks : Planes) (k r : ℕ) → k < 8
    → get_or (get_or (blocks.p0 ∷ blocks.p1 ∷ blocks.p2 ∷ blocks.p3 ∷ blocks.p4 ∷ blocks.p5 ∷ blocks.p6 ∷ blocks.p7 ∷ []) k []) r 0 ≡ slice_index (lanes_at blocks r) k
row_at blocks k r lt = by_eight (λ k. get_or (get_or (blocks.p0 ∷ blocks.p1 ∷ blocks.p2 ∷ blocks.p3 ∷ blocks.p4 ∷ blocks.p5 ∷ blocks.p6 ∷ blocks.p7 ∷ []) k []) r 0 ≡ slice_index (lanes_at blocks r) k)
    refl refl refl refl refl refl refl refl k lt

-- byte q of the eight blocks from block 8 * i on
pub mask_at : (h : List ℕ) (i q : ℕ) → slice_index (cipher_with (key_words h 52) (counter_block (8 * i + q / 16))) (q % 16) ≡ mask_byte h (128 * i + q)
mask_at h i q =
    let block : 8 * i + q / 16 ≡ (128 * i + q) / 16 = omega arith in
    let byte : q % 16 ≡ (128 * i + q) % 16 = omega arith in
    λ t. slice_index (cipher_with (key_words h 52) (counter_block (block t))) (byte t)

module _ (h old cur n mask : List ℕ) (i k : ℕ)
    (low : (q : ℕ) → q < 128 * i → slice_index cur q ≡ bit_xor (slice_index old q) (mask_byte h q))
    (high : (q : ℕ) → 128 * i ≤ q → slice_index cur q ≡ slice_index old q)
    (small : k ≤ 128) (fits : 128 * i + k ≤ length cur) (long : length n ≡ k)
    (sums : (q : ℕ) → q < k → slice_index n q ≡ bit_xor (slice_index (take k (drop (128 * i) cur)) q) (slice_index mask q))
    (masked : (q : ℕ) → q < 128 → slice_index mask q ≡ mask_byte h (128 * i + q)) where
  within : (q : ℕ) → 128 * i ≤ q → q < 128 * i + k → slice_index n (q - 128 * i) ≡ bit_xor (slice_index old q) (mask_byte h q)
  within q le lt =
      let r : ℕ = q - 128 * i in
      let r_lt : r < k = omega arith in
      let e : 128 * i + r ≡ q = omega arith in
      sums r r_lt
      ∙ (λ t. bit_xor ((get_or-chunk (128 * i) k cur r 0 r_lt ∙ ap (slice_index cur) e ∙ high q le) t) ((masked r (omega arith) ∙ ap (mask_byte h) e) t))

  pub more_low : (q : ℕ) → q < 128 * i + k → slice_index (put_mid (128 * i) k cur n) q ≡ bit_xor (slice_index old q) (mask_byte h q)
  more_low q lt = elim (cases_lt q (128 * i)) [
    | inl b ↦ put_mid-below (128 * i) k cur n 0 (omega arith) (sym long) q b ∙ low q b
    | inr g ↦ put_mid-at (128 * i) k cur n 0 (omega arith) (sym long) q g (omega arith) ∙ within q g lt
  ]

  pub more_high : (q : ℕ) → 128 * i + k ≤ q → slice_index (put_mid (128 * i) k cur n) q ≡ slice_index old q
  more_high q le = put_mid-above (128 * i) k cur n 0 (omega arith) (sym long) q (omega arith) ∙ high q (omega arith)

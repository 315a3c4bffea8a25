-- The key schedule.
use Rattle.std.proofs.Common.{◌≡◌, ℕ, zero, suc, ◌+◌, ◌*◌, ◌%◌, ◌<◌, ◌≤◌, T, eqb, eqb→eq, List, [], ◌∷◌, ◌++◌, length, take, get_or, bit_xor, w8, Fits, refl, sym, ap, subst, ◌∙◌, arith, add-one}
use Rattle.std.proofs.lemmas.Simd.{length-zip2}
use Rattle.std.proofs.Common.{length-append}
use Rattle.std.proofs.lemmas.List.{get_or-take, get_or-drop}
use Rattle.std.proofs.Common.{Bool, true, false, cond, zero-add}
use lib.Lanes.{chunk}
use Rattle.std.proofs.lemmas.Slice.{take-put_mid}
use borrow.Rule.Slice.PartMut.{put_mid}
use Rattle.std.proofs.Math.Seq.{take-append_seam}
use Rattle.std.proofs.Common.{drop}
use Rattle.std.proofs.lemmas.Simd.{get_or-chunk, length-chunk}
use Rattle.aes256.specs.declared.schedule.TheConstants.{SBOX, RCON}
use Rattle.aes256.specs.declared.planes.Planes.{Planes}
use Rattle.gf256.specs.Field.{product, carryless, remainder, squares, inverse, power}
use Rattle.aes256.specs.Cipher.{s_box, added, word, step_of, key_words, round_key, rounds, mix_columns, shift_rows, sub_bytes}
use Rattle.aes256.specs.Planes.{IsBlock, byte_at}
use Rattle.aes256.proofs.Circuit.{all_below, every_below}
use Rattle.aes256.proofs.Round.{added-at}

s_box-table : T (all_below (λ x. eqb (get_or SBOX x 0) (s_box x)) 256)
unfolding product carryless remainder inverse squares s_box
s_box-table = tt

pub table-at : (b : ℕ) → Fits w8 b → get_or SBOX b 0 ≡ s_box b
table-at b fits = eqb→eq _ _ (every_below (λ x. eqb (get_or SBOX x 0) (s_box x)) 256 s_box-table b fits.fits)

constants : T (all_below (λ j. eqb (get_or RCON j 0) (power 2 j)) 7)
unfolding product carryless remainder power
constants = tt

pub constant-at : (j : ℕ) → j < 7 → get_or RCON j 0 ≡ power 2 j
constant-at j lt = eqb→eq _ _ (every_below (λ j. eqb (get_or RCON j 0) (power 2 j)) 7 constants j lt)

pub add_right : (before key after : Planes) (k : ℕ) (text words : List ℕ) → IsBlock before k text → IsBlock key k words
    → ((p : ℕ) → p < 16 → byte_at after k p ≡ bit_xor (byte_at before k p) (byte_at key k p)) → IsBlock after k (added text words)
add_right before key after k text words b r sums = record {
  long = length-zip2 bit_xor text words (b.long ∙ sym r.long) ∙ b.long;
  same = λ p lt. sums p lt ∙ (λ t. bit_xor (b.same p lt t) (r.same p lt t)) ∙ sym (added-at text words p b.long r.long lt);
}

pub rounds-next : (words text : List ℕ) (r : ℕ) → rounds words text (r + 1) ≡ added (mix_columns (shift_rows (sub_bytes (rounds words text r)))) (round_key words (r + 1))
unfolding rounds
rounds-next words text r = rw add-one refl

pub first_words : (xs rest key : List ℕ) → xs ≡ key → length key ≡ 32 → length rest ≡ 208
    → (length (xs ++ rest) ≡ 240) × (take 32 (xs ++ rest) ≡ key_words key 0)
unfolding key_words
first_words xs rest key e long others =
    let len : length xs ≡ 32 = ap length e ∙ long in
    (omega (arith, length-append xs rest), subst (λ (n : ℕ). take n (xs ++ rest) ≡ xs) len (take-append_seam xs rest) ∙ e)

four : (s : List ℕ) → length s ≡ 4 → s ≡ get_or s 0 0 ∷ get_or s 1 0 ∷ get_or s 2 0 ∷ get_or s 3 0 ∷ []
four [] e = absurd (omega arith)
four (a ∷ []) e = absurd (omega arith)
four (a ∷ b ∷ []) e = absurd (omega arith)
four (a ∷ b ∷ c ∷ []) e = absurd (omega arith)
four (a ∷ b ∷ c ∷ d ∷ []) e = refl
four (a ∷ b ∷ c ∷ d ∷ x ∷ xs) e = absurd (omega arith)

added_four : (a b c d : ℕ) (s : List ℕ) → length s ≡ 4
    → added (a ∷ b ∷ c ∷ d ∷ []) s ≡ bit_xor a (get_or s 0 0) ∷ bit_xor b (get_or s 1 0) ∷ bit_xor c (get_or s 2 0) ∷ bit_xor d (get_or s 3 0) ∷ []
added_four a b c d s long = ap (added (a ∷ b ∷ c ∷ d ∷ [])) (four s long)

length-cond : (b : Bool) (x y : List ℕ) → length x ≡ 4 → length y ≡ 4 → length (cond b x y) ≡ 4
length-cond true x y p q = p
length-cond false x y p q = q

length-step_of : (i a b c d : ℕ) → length (step_of i (a ∷ b ∷ c ∷ d ∷ [])) ≡ 4
length-step_of i a b c d = length-cond (eqb (i % 8) 0) _ _ refl (length-cond (eqb (i % 8) 4) _ _ refl refl)

pub length-key_words : (key : List ℕ) (n : ℕ) → length key ≡ 32 → length (key_words key n) ≡ 4 * n + 32
unfolding key_words
length-key_words key zero long = long
length-key_words key (suc n) long =
    let before = length-key_words key n long in
    let w : List ℕ = word (key_words key n) n in
    let s : List ℕ = step_of (n + 8) (word (key_words key n) (n + 7)) in
    let added_long : length (added w s) ≡ 4 = length-zip2 bit_xor w s (sym (length-step_of (n + 8) _ _ _ _)) in
    omega (arith, before, added_long, length-append (key_words key n) (added w s))

pub loaded : (words : List ℕ) (i k p : ℕ) → k ≡ 16 → p < 16 → get_or (chunk 0 16 (take k (drop i words))) p 0 ≡ get_or words (i + p) 0
loaded words i k p e lt =
    get_or-chunk 0 16 (take k (drop i words)) p 0 lt ∙ ap (λ (q : ℕ). get_or (take k (drop i words)) q 0) (zero-add p)
    ∙ get_or-take k (drop i words) p 0 (omega arith) ∙ get_or-drop i words p 0

word_at : (w ks : List ℕ) (m i j : ℕ) → take m w ≡ ks → 4 * i ≡ j → j + 4 ≤ m
    → word ks i ≡ get_or w j 0 ∷ get_or w (j + 1) 0 ∷ get_or w (j + 2) 0 ∷ get_or w (j + 3) 0 ∷ []
word_at w ks m i j held at fits =
    let byte : (q : ℕ) → q < m → get_or ks q 0 ≡ get_or w q 0 = λ q lt. ap (λ (l : List ℕ). get_or l q 0) (sym held) ∙ get_or-take m w q 0 lt in
    rw at (λ t. byte j (omega arith) t ∷ byte (j + 1) (omega arith) t ∷ byte (j + 2) (omega arith) t ∷ byte (j + 3) (omega arith) t ∷ [])

pub key_more : (w ys key step : List ℕ) (n k : ℕ) → take (4 * n + 32) w ≡ key_words key n → 4 * n + 36 ≤ length w
    → step ≡ step_of (n + 8) (get_or w (4 * n + 28) 0 ∷ get_or w (4 * n + 29) 0 ∷ get_or w (4 * n + 30) 0 ∷ get_or w (4 * n + 31) 0 ∷ [])
    → ys ≡ bit_xor (get_or w (4 * n) 0) (get_or step 0 0) ∷ bit_xor (get_or w (4 * n + 1) 0) (get_or step 1 0)
    ∷ bit_xor (get_or w (4 * n + 2) 0) (get_or step 2 0) ∷ bit_xor (get_or w (4 * n + 3) 0) (get_or step 3 0) ∷ []
    → take (4 * (n + 1) + 32) (put_mid (4 * n + 32) k w ys) ≡ key_words key (n + 1)
unfolding key_words
key_more w ys key step n k held fits is_step is_ys =
    let long : length step ≡ 4 = ap length is_step ∙ length-step_of (n + 8) _ _ _ _ in
    let ly : length ys ≡ 4 = rw is_ys refl in
    let front : take (4 * (n + 1) + 32) (put_mid (4 * n + 32) k w ys) ≡ take (4 * n + 32) w ++ ys = take-put_mid (4 * n + 32) k w ys (4 * (n + 1) + 32) (omega arith) (omega arith) in
    let own = word_at w (key_words key n) (4 * n + 32) n (4 * n) held refl (omega arith) in
    let last = word_at w (key_words key n) (4 * n + 32) (n + 7) (4 * n + 28) held (omega arith) (omega arith) in
    let e1 : 4 * n + 28 + 1 ≡ 4 * n + 29 = omega arith in
    let e2 : 4 * n + 28 + 2 ≡ 4 * n + 30 = omega arith in
    let e3 : 4 * n + 28 + 3 ≡ 4 * n + 31 = omega arith in
    let before : word (key_words key n) (n + 7) ≡ get_or w (4 * n + 28) 0 ∷ get_or w (4 * n + 29) 0 ∷ get_or w (4 * n + 30) 0 ∷ get_or w (4 * n + 31) 0 ∷ [] =
    last ∙ (λ t. get_or w (4 * n + 28) 0 ∷ get_or w (e1 t) 0 ∷ get_or w (e2 t) 0 ∷ get_or w (e3 t) 0 ∷ []) in
    let stepped : step ≡ step_of (n + 8) (word (key_words key n) (n + 7)) = is_step ∙ ap (step_of (n + 8)) (sym before) in
    let new : ys ≡ added (word (key_words key n) n) (step_of (n + 8) (word (key_words key n) (n + 7))) =
    is_ys ∙ sym (added_four (get_or w (4 * n) 0) (get_or w (4 * n + 1) 0) (get_or w (4 * n + 2) 0) (get_or w (4 * n + 3) 0) step long)
    ∙ (λ t. added (sym own t) (stepped t)) in
    front ∙ (λ t. held t ++ new t) ∙ sym (ap (key_words key) (add-one n))

pub round_key-at : (words : List ℕ) (r p : ℕ) → p < 16 → get_or (round_key words r) p 0 ≡ get_or words (16 * r + p) 0
round_key-at words r p lt = get_or-chunk (16 * r) 16 words p 0 lt

pub round_key-length : (words : List ℕ) (r : ℕ) → length words ≡ 240 → r < 15 → length (round_key words r) ≡ 16
round_key-length words r long lt = length-chunk (16 * r) 16 words (omega arith)

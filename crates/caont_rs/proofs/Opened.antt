-- What packages and shares give back: a text's own shares, the text.
use Rattle.std.proofs.Common.{◌≡◌, ◌≢◌, ℕ, zero, suc, ◌+◌, ◌-◌, ◌*◌, ◌<◌, ◌≤◌, ◌==◌, not, Bool, true, false, cond, List, ◌++◌, length, take, drop, replicate, slice_index, position, Some, None, Ok, Err, bit_xor, refl, sym, ap, subst, ◌∙◌, arith, inl, inr, length-append, length-drop, ◌⊎◌, All, nat_eq, nat_lt}
use Rattle.std.specs.Int.{to_be_bytes, w32}
use Rattle.std.specs.Cmp.Lexicographic.{pointwise, bytes_decides}
use Rattle.std.specs.List.{position_or_len}
use Rattle.std.proofs.lemmas.List.Sums.{prefix_len_is}
use Rattle.std.proofs.lemmas.Bool.{cases_lt, eq-eqb, ne_eqb, lt-ltb, le-ltb}
use Rattle.std.proofs.Math.Nat.{mul-le-mul_left, mul-add}
use Rattle.std.proofs.Math.ListN.{get_or-append}
use Rattle.std.proofs.Math.Seq.{get_or-append_right}
use Rattle.std.proofs.lemmas.List.{take_at, drop_at, length-replicate, get_or-drop}
use Rattle.std.proofs.lemmas.Simd.{length-zip2}
use Rattle.reed_solomon.specs.CdBase.shape.Shape.{Shape}
use Rattle.reed_solomon.specs.CdBase.Lengths.{share_len_of}
use Rattle.reed_solomon.specs.CdBase.Reading.{AreBytes}
use Rattle.sha2.specs.Sha256.{sha256, digest_bytes}
use Rattle.sha2.proofs.Facts256.{length-sha256}
use Rattle.aes256.specs.Cipher.{added}
use Rattle.aes256.specs.Mask.{mask}
use Rattle.aes256.proofs.MaskLaws.{length-mask, added_twice, mask_bytes, AreBytes-added}
pub use Rattle.aes256.proofs.MaskLaws.{AreBytes-append}
use Rattle.reed_solomon.specs.Dispersal.{AreChoice, row}
use Rattle.reed_solomon.proofs.Recovery.{whole_rows}
use Rattle.reed_solomon.proofs.Shares.{length-share_of, byte_at, share_of_below}
use Rattle.caont_rs.specs.declared.opening.RecoverErr.TheVariants.{BadSecret, BadPad}
use Rattle.caont_rs.specs.Package.{masked, padded, pad_len, body_of, tail_of, package_of, share}
use Rattle.caont_rs.specs.Opening.{package_at, body_in, key_in, text_in, fp, without_pad, opened_package, opened_text, opened}
use Rattle.caont_rs.proofs.Openings.{united}

-- ---- lengths
pub pad_fits : (k len : ℕ) → 0 < k → len + 32 ≤ k * share_len_of k len
pad_fits k len pos = omega arith

-- the text's pad fills k equal pieces up
pub length-padded : (s : Shape) (text : List ℕ) → length (padded s text) + 32 ≡ s.k * share_len_of s.k (length text)
unfolding padded
length-padded s text =
    let fits : length text + 32 ≤ s.k * share_len_of s.k (length text) = pad_fits s.k (length text) (omega (arith, s.several)) in
    let more : length (replicate (pad_len s.k (length text)) 0) ≡ pad_len s.k (length text) = length-replicate {A = ℕ} (pad_len s.k (length text)) 0 in
    let both : length (text ++ replicate (pad_len s.k (length text)) 0) ≡ length text + length (replicate (pad_len s.k (length text)) 0) = length-append text (replicate (pad_len s.k (length text)) 0) in
    omega (arith, more, both)

-- and no fewer zeros do
pub fewest : (k len more m : ℕ) → 0 < k → len + more + 32 ≡ k * m → pad_len k len ≤ more
fewest k len more m pos e =
    let q : ℕ = share_len_of k len in
    elim (cases_lt m q) [
      | inl l ↦ let le : k * (m + 1) ≤ k * q = mul-le-mul_left k (omega arith) in let next : k * (m + 1) ≡ k * m + k * 1 = mul-add k m 1 in
          let most : k * q ≤ len + 31 + k = omega arith in absurd (omega arith)
      | inr le ↦ let at_most : k * q ≤ k * m = mul-le-mul_left k le in omega arith
    ]

pub length-added : (xs ys : List ℕ) → length xs ≡ length ys → length (added xs ys) ≡ length xs
length-added xs ys e = length-zip2 bit_xor xs ys e

pub length-body_of : (x : List ℕ) → length (body_of x) ≡ length x
length-body_of x = length-added x (mask (sha256 x) (length x)) (sym (length-mask (sha256 x) (length x) (length-sha256 x)))

pub length-tail_of : (x : List ℕ) → length (tail_of x) ≡ 32
length-tail_of x = length-added (sha256 x) (sha256 (body_of x)) (length-sha256 x ∙ sym (length-sha256 (body_of x))) ∙ length-sha256 x

pub length-package_of : (s : Shape) (text : List ℕ) → length (package_of s text) ≡ s.k * share_len_of s.k (length text)
unfolding package_of
length-package_of s text =
    let x : List ℕ = padded s text in
    omega (arith, length-append (body_of x) (tail_of x), length-body_of x, length-tail_of x, length-padded s text)

pub length-share : (s : Shape) (j : ℕ) (text : List ℕ) → length (share s j text) ≡ share_len_of s.k (length text)
unfolding share
length-share s j text = length-share_of s (package_of s text) j
    ∙ (whole_rows s.k (share_len_of s.k (length text)) (length (package_of s text)) (omega (arith, s.several)) (length-package_of s text)).0

-- ---- bytes
AreBytes-zeros : (n : ℕ) → AreBytes (replicate n 0)
AreBytes-zeros zero i = omega arith
AreBytes-zeros (suc n) zero = omega arith
AreBytes-zeros (suc n) (suc i) = AreBytes-zeros n i

AreBytes-word : (n : ℕ) → AreBytes (to_be_bytes w32 n)
AreBytes-word n zero = omega arith
AreBytes-word n (suc zero) = omega arith
AreBytes-word n (suc (suc zero)) = omega arith
AreBytes-word n (suc (suc (suc zero))) = omega arith
AreBytes-word n (suc (suc (suc (suc i)))) = omega arith

AreBytes-digest : (h : List ℕ) (n : ℕ) → AreBytes (digest_bytes h n)
unfolding digest_bytes
AreBytes-digest h zero i = omega arith
AreBytes-digest h (suc n) i = AreBytes-append (digest_bytes h n) (to_be_bytes w32 (slice_index h n)) (AreBytes-digest h n) (AreBytes-word (slice_index h n)) i

AreBytes-sha256 : (m : List ℕ) → AreBytes (sha256 m)
unfolding sha256
AreBytes-sha256 m = AreBytes-digest _ 8

AreBytes-mask : (m : List ℕ) (len : ℕ) → AreBytes (mask (sha256 m) len)
AreBytes-mask m len = byte_at (mask (sha256 m) len) (mask_bytes (sha256 m) len (length-sha256 m) (AreBytes-sha256 m))

pub AreBytes-package_of : (s : Shape) (text : List ℕ) → AreBytes text → AreBytes (package_of s text)
unfolding package_of padded
AreBytes-package_of s text bytes =
    let x : List ℕ = padded s text in
    AreBytes-append (body_of x) (tail_of x)
    (AreBytes-added x (mask (sha256 x) (length x)) (AreBytes-append text (replicate (pad_len s.k (length text)) 0) bytes (AreBytes-zeros (pad_len s.k (length text)))) (AreBytes-mask x (length x)))
    (AreBytes-added (sha256 x) (sha256 (body_of x)) (AreBytes-sha256 x) (AreBytes-sha256 (body_of x)))

-- ---- a package is opened
-- where no byte is other than zero
position_none : (xs : List ℕ) → ((k : ℕ) → slice_index xs k ≡ 0) → position (λ byte. not (byte == 0)) xs ≡ None
position_none xs h =
    let n : ℕ = length xs in
    let e : position_or_len (λ byte. not (byte == 0)) xs ≡ n =
    prefix_len_is (λ byte. not (not (byte == 0))) xs n 0 (omega arith) (λ k l. ap (λ (b : Bool). not (not b)) (eq-eqb _ _ (h k))) (λ l. absurd (omega arith)) in
    ap (λ (m : ℕ). cond (nat_lt m n) (Some m) None) e ∙ ap (λ (b : Bool). cond b (Some n) None) (le-ltb n n (omega arith))

-- where the first such byte is at i
pub position_some : (xs : List ℕ) (i : ℕ) → i < length xs → slice_index xs i ≢ 0 → ((k : ℕ) → k < i → slice_index xs k ≡ 0) → position (λ byte. not (byte == 0)) xs ≡ Some i
position_some xs i l other h =
    let e : position_or_len (λ byte. not (byte == 0)) xs ≡ i =
    prefix_len_is (λ byte. not (not (byte == 0))) xs i 0 (omega arith) (λ k b. ap (λ (b : Bool). not (not b)) (eq-eqb _ _ (h k b)))
    (λ b. ap (λ (b : Bool). not (not b)) (ne_eqb _ _ other)) in
    ap (λ (m : ℕ). cond (nat_lt m (length xs)) (Some m) None) e ∙ ap (λ (b : Bool). cond b (Some i) None) (lt-ltb i (length xs) l)

zero_at : (n i : ℕ) → slice_index (replicate n 0) i ≡ 0
zero_at zero i = refl
zero_at (suc n) zero = refl
zero_at (suc n) (suc i) = zero_at n i

pub both : (b : Bool) → (b ≡ true) ⊎ (b ≡ false)
both true = inl refl
both false = inr refl

same_digest : (h f : List ℕ) → f ≡ h → pointwise nat_eq h f ≡ true
same_digest h f e = (bytes_decides h f).1 (sym e)

other_digest : (h f : List ℕ) → f ≢ h → pointwise nat_eq h f ≡ false
other_digest h f e = elim (both (pointwise nat_eq h f)) [
  | inl s ↦ absurd (e (sym ((bytes_decides h f).0 s)))
  | inr o ↦ o
]

with_hash : (len : ℕ) (h text : List ℕ) → sha256 text ≡ h → opened_text len h text ≡ without_pad len text (position (λ byte. not (byte == 0)) (drop len text))
with_hash len h text e =
    ap (λ (b : Bool). cond b (without_pad len text (position (λ byte. not (byte == 0)) (drop len text))) (Err (BadSecret (fp h) (fp (sha256 text))))) (same_digest h (sha256 text) e)

pub gives_bad_secret : (len : ℕ) (p : List ℕ) → sha256 (text_in p) ≢ key_in p → opened_package len p ≡ Err (BadSecret (fp (key_in p)) (fp (sha256 (text_in p))))
unfolding opened_package
gives_bad_secret len p e =
    ap (λ (b : Bool). cond b (without_pad len (text_in p) (position (λ byte. not (byte == 0)) (drop len (text_in p)))) (Err (BadSecret (fp (key_in p)) (fp (sha256 (text_in p))))))
    (other_digest (key_in p) (sha256 (text_in p)) e)

pub gives_bad_pad : (len : ℕ) (p : List ℕ) (at : ℕ) → sha256 (text_in p) ≡ key_in p → len ≤ at → at < length (text_in p) → slice_index (text_in p) at ≢ 0
    → ((i : ℕ) → len ≤ i → i < at → slice_index (text_in p) i ≡ 0) → opened_package len p ≡ Err (BadPad at (slice_index (text_in p) at))
unfolding opened_package
gives_bad_pad len p at e le l other h =
    let x : List ℕ = text_in p in
    let i : ℕ = at - len in
    let place : len + i ≡ at = omega arith in
    let within : i < length (drop len x) = omega (arith, length-drop len x) in
    with_hash len (key_in p) x e
    ∙ ap (without_pad len x) (position_some (drop len x) i within
    (subst (λ (v : ℕ). v ≢ 0) (sym (get_or-drop len x i 0 ∙ ap (λ (n : ℕ). slice_index x n) place)) other)
    (λ k b. get_or-drop len x k 0 ∙ h (len + k) (omega arith) (omega arith)))
    ∙ ap (λ (n : ℕ). Err (BadPad n (slice_index x n))) place

pub gives_text : (len : ℕ) (p : List ℕ) → sha256 (text_in p) ≡ key_in p → ((i : ℕ) → len ≤ i → slice_index (text_in p) i ≡ 0) → opened_package len p ≡ Ok (take len (text_in p))
unfolding opened_package
gives_text len p e h =
    let x : List ℕ = text_in p in
    with_hash len (key_in p) x e
    ∙ ap (without_pad len x) (position_none (drop len x) (λ k. get_or-drop len x k 0 ∙ h (len + k) (omega arith)))

-- the text of a package of x is x, under the hash of x
pub text_of_package : (x : List ℕ) → (key_in (body_of x ++ tail_of x) ≡ sha256 x) × (text_in (body_of x ++ tail_of x) ≡ x)
text_of_package x =
    let y : List ℕ = body_of x in
    let t : List ℕ = tail_of x in
    let long : length (y ++ t) - 32 ≡ length y = omega (arith, length-append y t, length-tail_of x) in
    let body : body_in (y ++ t) ≡ y = take_at y t (length (y ++ t) - 32) (sym long) in
    let tail : drop (length (y ++ t) - 32) (y ++ t) ≡ t = drop_at y t (length (y ++ t) - 32) (sym long) in
    let key : key_in (y ++ t) ≡ sha256 x = (λ i. added (tail i) (sha256 (body i))) ∙ added_twice (sha256 x) (sha256 y) (length-sha256 x ∙ sym (length-sha256 y)) in
    let text : text_in (y ++ t) ≡ x = (λ i. masked (key i) (body i)) ∙ ap (λ (n : ℕ). added y (mask (sha256 x) n)) (length-body_of x)
    ∙ added_twice x (mask (sha256 x) (length x)) (sym (length-mask (sha256 x) (length x) (length-sha256 x))) in
    (key, text)

zeros_behind : (s : Shape) (text : List ℕ) (i : ℕ) → length text ≤ i → slice_index (padded s text) i ≡ 0
unfolding padded
zeros_behind s text i le = get_or-append_right text (replicate (pad_len s.k (length text)) 0) i 0 le ∙ zero_at (pad_len s.k (length text)) (i - length text)

take-padded : (s : Shape) (text : List ℕ) → take (length text) (padded s text) ≡ text
unfolding padded
take-padded s text = take_at text (replicate (pad_len s.k (length text)) 0) (length text) refl

-- the package of a text gives the text
opens_own : (s : Shape) (text : List ℕ) → opened_package (length text) (package_of s text) ≡ Ok text
unfolding package_of
opens_own s text =
    let x : List ℕ = padded s text in
    let p : List ℕ = body_of x ++ tail_of x in
    let whole = text_of_package x in
    let pad : (i : ℕ) → length text ≤ i → slice_index x i ≡ 0 = λ i le. zeros_behind s text i le in
    gives_text (length text) p (ap sha256 whole.1 ∙ sym whole.0) (λ i le. ap (λ (xs : List ℕ). slice_index xs i) whole.1 ∙ pad i le)
    ∙ ap (λ (xs : List ℕ). Ok (take (length text) xs)) whole.1
    ∙ ap Ok (take-padded s text)

-- any k shares of a text give it back
pub gives_back : (s : Shape) (text points given : List ℕ) → AreChoice s points → AreBytes text → AreBytes given
    → length given ≡ s.k * share_len_of s.k (length text)
    → ((t : ℕ) → t < s.k → row (share_len_of s.k (length text)) t given ≡ share s (slice_index points t) text)
    → opened s (length text) points given ≡ Ok text
unfolding opened share
gives_back s text points given choice bt bg long rows =
    let w : ℕ = share_len_of s.k (length text) in
    let whole = whole_rows s.k w (length given) (omega (arith, s.several)) long in
    let only : package_of s text ≡ package_at s points given =
    united s points given (package_of s text) choice whole.1 (length-package_of s text ∙ sym long) bg (AreBytes-package_of s text bt)
    (λ t l. sym (ap (λ (v : ℕ). row v t given) whole.0 ∙ rows t l)) in
    ap (opened_package (length text)) (sym only) ∙ opens_own s text

-- ---- names
ends_before : (p q : List ℕ) (a b : ℕ) → All (λ byte. byte ≢ 0) q → p ++ replicate a 0 ≡ q ++ replicate b 0 → length p < length q → ⊥
ends_before p q a b no_zero e l =
    let i : ℕ = length p in
    let left : slice_index (p ++ replicate a 0) i ≡ 0 = get_or-append_right p (replicate a 0) i 0 (omega arith) ∙ zero_at a (i - length p) in
    no_zero i 0 l (sym (get_or-append q (replicate b 0) 0 i l) ∙ sym (ap (λ (xs : List ℕ). slice_index xs i) e) ∙ left)

-- bytes with no zero among them are known from their padded text
pub names_apart : (s : Shape) (p q : List ℕ) → All (λ byte. byte ≢ 0) p → All (λ byte. byte ≢ 0) q → padded s p ≡ padded s q → p ≡ q
unfolding padded
names_apart s p q hp hq e =
    let a : ℕ = pad_len s.k (length p) in
    let b : ℕ = pad_len s.k (length q) in
    let same : length p ≡ length q = elim (cases_lt (length p) (length q)) [
      | inl l ↦ absurd (ends_before p q a b hq e l)
      | inr m ↦ elim (cases_lt (length q) (length p)) [ inl l ↦ absurd (ends_before q p b a hp (sym e) l) | inr n ↦ omega arith ]
    ] in
    sym (take_at p (replicate a 0) (length p) refl) ∙ ap (take (length p)) e ∙ take_at q (replicate b 0) (length p) (sym same)

-- the shares below k are the pieces
pub share_below : (s : Shape) (j : ℕ) (text : List ℕ) → All (λ b. b < 256) text → j < s.k → share s j text ≡ row (share_len_of s.k (length text)) j (package_of s text)
unfolding share
share_below s j text bytes l =
    let whole = whole_rows s.k (share_len_of s.k (length text)) (length (package_of s text)) (omega (arith, s.several)) (length-package_of s text) in
    share_of_below s (package_of s text) j (AreBytes-package_of s text (byte_at text bytes)) whole.1 l
    ∙ ap (λ (v : ℕ). row v j (package_of s text)) whole.0

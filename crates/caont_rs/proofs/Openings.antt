-- What shares give back.
use Rattle.std.proofs.Common.{◌≡◌, ℕ, zero, suc, ◌+◌, ◌-◌, ◌*◌, ◌/◌, ◌%◌, ◌<◌, ◌≤◌, List, ◌++◌, length, take, drop, slice_index, Result, refl, sym, ap, subst, ◌∙◌, arith, inl, inr, replicate, length-append, length-drop}
use Rattle.std.proofs.lemmas.Bool.{cases_lt}
use Rattle.std.proofs.Math.Seq.{take-append-add}
use Rattle.std.proofs.lemmas.List.{take-append-le, take_all, take_at, take-take, take_rest, length-map, length-replicate, get_or_past}
use Rattle.reed_solomon.proofs.Rows.{place_below}
use Rattle.std.proofs.lemmas.List.FromFn.{length-range_with_len, get_or-map-range_with_len}
use Rattle.std.proofs.lemmas.Nat.{xor_lt, mod-mul-add, div-mul-add}
use Rattle.std.specs.List.{range_with_len}
use Rattle.reed_solomon.specs.CdBase.shape.Shape.{Shape}
use Rattle.sha2.specs.Sha256.{sha256}
use Rattle.aes256.specs.Gf256.Field.{product}
use Rattle.aes256.proofs.Gf256.Laws.{product_lt}
use Rattle.aes256.specs.Cipher.{added}
use Rattle.reed_solomon.specs.Interpolation.{combine, interpolant, column_value}
use Rattle.reed_solomon.specs.Dispersal.{AreChoice, row, share_of}
use Rattle.reed_solomon.proofs.Shares.{shares_determine, decoded}
use Rattle.caont_rs.specs.declared.opening.RecoverErr.{RecoverErr}
use Rattle.caont_rs.specs.Package.{masked}
use Rattle.caont_rs.specs.Opening.{package_at, opened_package, opened_text, answer_of}

-- ---- a package that is opened in place
pub opens : (len : ℕ) (p body tail last left : List ℕ) (r : Result (Unit {0}) RecoverErr) → len + 32 ≤ length p
    → body ≡ take (length p - 32) p → last ≡ drop (length p - 32) p → len ≤ length left
    → (let h = added last (sha256 body) in let x = masked h body in (left ≡ x) × (opened_text len h x ≡ answer_of r (take len x)))
    → opened_package len p ≡ answer_of r (take len (left ++ tail))
unfolding opened_package
opens len p body tail last left r room eb el fits (e, h) =
    (λ t. opened_text len (added (sym el t) (sha256 (sym eb t))) (masked (added (sym el t) (sha256 (sym eb t))) (sym eb t))) ∙ h
    ∙ ap (λ (x : List ℕ). answer_of r (take len x)) (sym e)
    ∙ ap (answer_of r) (sym (take-append-le len left tail fits))

-- ---- the package of given shares
pub combine_lt : (w v : ℕ → ℕ) (n : ℕ) → combine w v n < 256
unfolding combine
combine_lt w v zero = omega arith
combine_lt w v (suc n) = xor_lt 8 (combine w v n) (product (w n) (v n)) (combine_lt w v n) (product_lt (w n) (v n))

column_lt : (points values : List ℕ) (w y c : ℕ) → column_value points values w y c < 256
unfolding column_value interpolant
column_lt points values w y c = combine_lt _ _ (length points)

pub length-package_at : (s : Shape) (points shares : List ℕ) → length (package_at s points shares) ≡ length shares
unfolding package_at
length-package_at s points shares = length-map (range_with_len 0 (length shares)) _ ∙ length-range_with_len 0 (length shares)

package_byte : (s : Shape) (points shares : List ℕ) (w j c : ℕ) → length shares / s.k ≡ w → length shares ≡ s.k * w → j < s.k → c < w
    → slice_index (package_at s points shares) (j * w + c) ≡ column_value points shares w j c
unfolding package_at
package_byte s points shares w j c ew el l m =
    let v : ℕ = length shares / s.k in
    let i : ℕ = j * w + c in
    let within : i < length shares = rw el (place_below j w c s.k l m) in
    let of_row : i / w ≡ j = div-mul-add j w c m in
    let in_row : i % w ≡ c = mod-mul-add j w c m in
    get_or-map-range_with_len (λ (i : ℕ). column_value points shares v (i / v) (i % v)) 0 (length shares) i i 0 within (omega arith)
    ∙ ap (λ (v : ℕ). column_value points shares v (i / v) (i % v)) ew
    ∙ (λ t. column_value points shares w (of_row t) (in_row t))

-- its shares at the points are the given ones
pub package_at_shares : (s : Shape) (points shares : List ℕ) → AreChoice s points → length shares ≡ s.k * (length shares / s.k)
    → ((i : ℕ) → slice_index shares i < 256) → (t : ℕ) → t < s.k
    → share_of s (package_at s points shares) (slice_index points t) ≡ row (length shares / s.k) t shares
package_at_shares s points shares choice whole bytes =
    let w : ℕ = length shares / s.k in
    decoded s w points shares (package_at s points shares) choice bytes whole (length-package_at s points shares)
    (λ j c l m. package_byte s points shares w j c refl whole l m)

pub package_at_bytes : (s : Shape) (points shares : List ℕ) (i : ℕ) → slice_index (package_at s points shares) i < 256
unfolding package_at
package_at_bytes s points shares i = elim (cases_lt i (length shares)) [
  | inl l ↦ subst (λ (v : ℕ). v < 256)
      (sym (get_or-map-range_with_len (λ (i : ℕ). column_value points shares (length shares / s.k) (i / (length shares / s.k)) (i % (length shares / s.k))) 0 (length shares) i i 0 l (omega arith)))
      (column_lt points shares _ _ _)
  | inr m ↦ let none : slice_index (package_at s points shares) i ≡ 0 = get_or_past (package_at s points shares) i 0 (omega (arith, length-package_at s points shares)) in omega arith
]

-- and no other bytes have them
pub united : (s : Shape) (points shares out : List ℕ) → AreChoice s points → length shares ≡ s.k * (length shares / s.k) → length out ≡ length shares
    → ((i : ℕ) → slice_index shares i < 256) → ((i : ℕ) → slice_index out i < 256)
    → ((t : ℕ) → t < s.k → share_of s out (slice_index points t) ≡ row (length shares / s.k) t shares)
    → out ≡ package_at s points shares
united s points shares out choice whole long bs bo h =
    shares_determine s points out (package_at s points shares) choice (long ∙ sym (length-package_at s points shares))
    (subst (λ (n : ℕ). n ≡ s.k * (n / s.k)) (sym long) whole) bo (package_at_bytes s points shares)
    (λ t l. h t l ∙ sym (package_at_shares s points shares choice whole bs t l))

-- ---- what is appended
pub grown : (out lent resized sealed post new : List ℕ) (before len long n : ℕ) → before ≡ length out → long ≡ before + n → len ≤ n
    → length sealed ≡ length (take (length lent - before) (drop before lent))
    → resized ≡ take long out ++ replicate (long - length out) 0 → lent ≡ resized
    → (let left = take before lent ++ (sealed ++ post) in new ≡ take (before + len) (take (length resized) (left ++ drop (length left) resized)))
    → new ≡ out ++ take len sealed
grown out lent resized sealed post new before len long n eb el some kept er es en =
    let whole : take long out ≡ out = take_all long out (omega arith) in
    let longer : resized ≡ out ++ replicate (long - length out) 0 = er ∙ ap (λ (xs : List ℕ). xs ++ replicate (long - length out) 0) whole in
    let first : take before lent ≡ out = ap (take before) (es ∙ longer) ∙ take_at out (replicate (long - length out) 0) before (sym eb) in
    let zeros : length (replicate (long - length out) 0) ≡ long - length out = length-replicate {A = ℕ} (long - length out) 0 in
    let size : length resized ≡ long = ap length longer ∙ length-append out (replicate (long - length out) 0) ∙ omega (arith, zeros) in
    let fits : len ≤ length sealed = omega (arith, kept ∙ ap length (take_rest lent before) ∙ length-drop before lent, ap length es) in
    let left : List ℕ = take before lent ++ (sealed ++ post) in
    let same : left ≡ out ++ (sealed ++ post) = ap (λ (xs : List ℕ). xs ++ (sealed ++ post)) first in
    let enough : before + len ≤ length left = omega (arith, ap length same, length-append out (sealed ++ post), length-append sealed post) in
    en ∙ take-take (before + len) (length resized) (left ++ drop (length left) resized) (omega arith)
    ∙ take-append-le (before + len) left (drop (length left) resized) enough
    ∙ ap (take (before + len)) same
    ∙ ap (λ (n : ℕ). take (n + len) (out ++ (sealed ++ post))) eb
    ∙ take-append-add out (sealed ++ post) len
    ∙ ap (λ (xs : List ℕ). out ++ xs) (take-append-le len sealed post fits)

-- The shares of given pieces, one by one: which they are, and that any k of them determine the pieces.
use Rattle.std.proofs.Common.{◌≡◌, ℕ, ◌+◌, ◌*◌, ◌/◌, ◌<◌, ◌≤◌, List, length, drop, slice_index, refl, sym, ap, ◌∙◌, arith, subst, length-take-le, length-drop, bit_xor, All, ext_get_or, mul-le-mul_right, add-mul, one-mul, inl, inr}
use Rattle.std.specs.Int.Bits.{xor_self, xor_zero_l}
use Rattle.std.specs.List.{range_with_len}
use Rattle.std.proofs.lemmas.Bool.{cases_lt}
use Rattle.std.proofs.lemmas.List.{get_or-take, get_or-drop, get_or_past, length-map}
use Rattle.std.proofs.lemmas.List.FromFn.{length-range_with_len, get_or-map-range_with_len}
use Rattle.gf256.specs.Field.{product, carryless, remainder, inverse, squares}
use Rattle.gf256.proofs.Laws.{eq-from_xor, product_one}
use Rattle.reed_solomon.specs.Interpolation.{interpolant, weight, numerator, combine, column_value, ArePoints}
use Rattle.reed_solomon.specs.Dispersal.{value_at, row, share_byte, share_of, IsOnPolynomial, Dispersed, AreChoice}
use Rattle.cd_base.specs.declared.shape.Shape.{Shape}
use Rattle.reed_solomon.proofs.Polynomial.{IsPoly, poly_from_list, poly_add, vanishes}
use Rattle.reed_solomon.proofs.Lagrange.{interpolant_poly, interpolant_at, interpolant_same, recovers, column_poly, column_at}
use Rattle.reed_solomon.proofs.Rows.{same_rows, place_below}
use Rattle.reed_solomon.proofs.Recovery.{chosen, whole_rows}

-- the numbers below k are points
pub own_points : (k : ℕ) → k ≤ 256 → ArePoints k (λ t. t)
own_points k few = record { bytes = λ i l. omega arith; apart = λ i j l m. λ e. omega arith }

-- a byte of a list of bytes, also past its end
pub byte_at : (xs : List ℕ) → All (λ b. b < 256) xs → (i : ℕ) → slice_index xs i < 256
byte_at xs h i = elim (cases_lt i (length xs)) [
  | inl l ↦ h i 0 l
  | inr m ↦ let none : slice_index xs i ≡ 0 = get_or_past xs i 0 m in omega arith
]

-- ---- rows
pub row_byte : (w j c : ℕ) (xs : List ℕ) → c < w → slice_index (row w j xs) c ≡ slice_index xs (j * w + c)
row_byte w j c xs h = get_or-take w (drop (j * w) xs) c 0 h ∙ get_or-drop (j * w) xs c 0

pub length-row : (w j n : ℕ) (xs : List ℕ) → j < n → length xs ≡ n * w → length (row w j xs) ≡ w
length-row w j n xs h e =
    let next : (j + 1) * w ≡ j * w + w = add-mul j 1 w ∙ ap (λ (z : ℕ). j * w + z) (one-mul w) in
    let le : (j + 1) * w ≤ n * w = mul-le-mul_right w (omega arith) in
    length-take-le w (drop (j * w) xs) (omega (arith, length-drop (j * w) xs))

-- ---- one share
pub length-share_of : (s : Shape) (pieces : List ℕ) (j : ℕ) → length (share_of s pieces j) ≡ length pieces / s.k
unfolding share_of
length-share_of s pieces j =
    length-map (range_with_len 0 (length pieces / s.k)) (share_byte s pieces j) ∙ length-range_with_len 0 (length pieces / s.k)

pub share_of_at : (s : Shape) (pieces : List ℕ) (j c : ℕ) → c < length pieces / s.k → slice_index (share_of s pieces j) c ≡ share_byte s pieces j c
unfolding share_of
share_of_at s pieces j c h = get_or-map-range_with_len (share_byte s pieces j) 0 (length pieces / s.k) c c 0 h (omega arith)

-- a list with a share's bytes is that share
pub share_of_is : (s : Shape) (pieces xs : List ℕ) (j w : ℕ) → length pieces / s.k ≡ w → length xs ≡ w
    → ((c : ℕ) → c < w → slice_index xs c ≡ share_byte s pieces j c) → share_of s pieces j ≡ xs
share_of_is s pieces xs j w ew ex h =
    ext_get_or 0 (share_of s pieces j) xs (length-share_of s pieces j ∙ ew ∙ sym ex) (λ c l.
    let within : c < length pieces / s.k = omega (arith, length-share_of s pieces j) in
    share_of_at s pieces j c within ∙ sym (h c (omega arith)))

pub share_poly : (s : Shape) (pieces : List ℕ) (c : ℕ) → IsPoly s.k (λ y. share_byte s pieces y c)
unfolding share_byte
share_poly s pieces c = interpolant_poly s.k (λ t. t) (λ t. slice_index pieces (t * (length pieces / s.k) + c))

-- a polynomial of degree below k that has the pieces' bytes at 0 to k-1 has the shares' bytes everywhere
pub share_from_poly : (s : Shape) (pieces : List ℕ) (w c : ℕ) (f : ℕ → ℕ) → IsPoly s.k f → length pieces / s.k ≡ w
    → ((t : ℕ) → t < s.k → slice_index pieces (t * w + c) ≡ f t) → (y : ℕ) → share_byte s pieces y c ≡ f y
unfolding share_byte
share_from_poly s pieces w c f hf ew h y =
    let few : s.k ≤ 256 = omega (arith, s.spare, s.few) in
    interpolant_same (λ t. t) (λ t. slice_index pieces (t * (length pieces / s.k) + c)) f s.k y
    (λ t l. ap (λ (z : ℕ). slice_index pieces (t * z + c)) ew ∙ h t l)
    ∙ recovers s.k f (λ t. t) hf (own_points s.k few) y

-- the shares below k are the pieces
pub share_byte_below : (s : Shape) (pieces : List ℕ) (j c : ℕ) → ((i : ℕ) → slice_index pieces i < 256) → j < s.k
    → share_byte s pieces j c ≡ slice_index pieces (j * (length pieces / s.k) + c)
unfolding share_byte
share_byte_below s pieces j c bytes h =
    let few : s.k ≤ 256 = omega (arith, s.spare, s.few) in
    interpolant_at s.k (λ t. t) (λ t. slice_index pieces (t * (length pieces / s.k) + c)) (own_points s.k few) j h
    (bytes (j * (length pieces / s.k) + c))

pub share_of_below : (s : Shape) (pieces : List ℕ) (j : ℕ) → ((i : ℕ) → slice_index pieces i < 256) → length pieces ≡ s.k * (length pieces / s.k)
    → j < s.k → share_of s pieces j ≡ row (length pieces / s.k) j pieces
share_of_below s pieces j bytes whole h =
    let w : ℕ = length pieces / s.k in
    share_of_is s pieces (row w j pieces) j w refl (length-row w j s.k pieces h whole)
    (λ c l. row_byte w j c pieces l ∙ sym (share_byte_below s pieces j c bytes h))

-- the shares of a dispersal are the shares of its pieces
pub dispersed_share : (s : Shape) (pieces shares : List ℕ) (j : ℕ) → Dispersed s pieces shares → j < s.n
    → share_of s pieces j ≡ row (length pieces / s.k) j shares
dispersed_share s pieces shares j d h =
    let w : ℕ = d.width in
    let ew : length pieces / s.k ≡ w = (whole_rows s.k w (length pieces) (omega (arith, s.several)) d.pieces_length).0 in
    share_of_is s pieces (row (length pieces / s.k) j shares) j w ew
    (ap (λ (z : ℕ). length (row z j shares)) ew ∙ length-row w j s.n shares h d.shares_length)
    (λ c l.
    let col : IsOnPolynomial s w shares c = d.columns c l in
    let cs : List ℕ = col.coefficients in
    let poly : IsPoly s.k (value_at cs) = subst (λ (k : ℕ). IsPoly k (value_at cs)) col.count (poly_from_list cs col.bytes) in
    let piece : (t : ℕ) → t < s.k → slice_index pieces (t * w + c) ≡ value_at cs t = λ t b.
    ap (λ (z : List ℕ). slice_index z (t * w + c)) (sym d.systematic)
    ∙ get_or-take (s.k * w) shares (t * w + c) 0 (place_below t w c s.k b l)
    ∙ col.values t (omega (arith, s.spare)) in
    ap (λ (z : ℕ). slice_index (row z j shares) c) ew ∙ row_byte w j c shares l ∙ col.values j h
    ∙ sym (share_from_poly s pieces w c (value_at cs) poly ew piece j))

-- ---- any k shares determine the pieces
pub shares_determine : (s : Shape) (points p q : List ℕ) → AreChoice s points → length p ≡ length q → length p ≡ s.k * (length p / s.k)
    → ((i : ℕ) → slice_index p i < 256) → ((i : ℕ) → slice_index q i < 256)
    → ((t : ℕ) → t < s.k → share_of s p (slice_index points t) ≡ share_of s q (slice_index points t)) → p ≡ q
shares_determine s points p q choice long whole bp bq h =
    let w : ℕ = length p / s.k in
    let ew : length q / s.k ≡ w = ap (λ (z : ℕ). z / s.k) (sym long) in
    same_rows p q s.k w whole (sym long ∙ whole) (λ j c l m.
    let difference : IsPoly s.k (λ y. bit_xor (share_byte s p y c) (share_byte s q y c)) =
    poly_add s.k (λ y. share_byte s p y c) (λ y. share_byte s q y c) (share_poly s p c) (share_poly s q c) in
    let points_of : ArePoints s.k (λ t. slice_index points t) =
    subst (λ (k : ℕ). ArePoints k (λ t. slice_index points t)) choice.count (chosen s points s.few choice) in
    let agree : (t : ℕ) → t < s.k → bit_xor (share_byte s p (slice_index points t) c) (share_byte s q (slice_index points t) c) ≡ 0 = λ t b.
    ap (λ (z : ℕ). bit_xor z (share_byte s q (slice_index points t) c))
    (sym (share_of_at s p (slice_index points t) c m) ∙ ap (λ (z : List ℕ). slice_index z c) (h t b)
    ∙ share_of_at s q (slice_index points t) c (rw ew m))
    ∙ xor_self (share_byte s q (slice_index points t) c) in
    sym (share_byte_below s p j c bp l)
    ∙ eq-from_xor (share_byte s p j c) (share_byte s q j c)
    (vanishes s.k (λ y. bit_xor (share_byte s p y c) (share_byte s q y c)) (λ t. slice_index points t) difference points_of agree j)
    ∙ share_byte_below s q j c bq l ∙ ap (λ (z : ℕ). slice_index q (j * z + c)) ew)

-- what is decoded has the given rows for shares
pub decoded : (s : Shape) (width : ℕ) (points given out : List ℕ) → AreChoice s points → ((i : ℕ) → slice_index given i < 256)
    → length given ≡ s.k * width → length out ≡ length given
    → ((j c : ℕ) → j < s.k → c < width → slice_index out (j * width + c) ≡ column_value points given width j c)
    → (t : ℕ) → t < s.k → share_of s out (slice_index points t) ≡ row width t given
decoded s width points given out choice bytes lg lo h t b =
    let count : length points ≡ s.k = choice.count in
    let named : ArePoints (length points) (λ t. slice_index points t) = chosen s points s.few choice in
    let ew : length out / s.k ≡ width = (whole_rows s.k width (length out) (omega (arith, s.several)) (lo ∙ lg)).0 in
    share_of_is s out (row width t given) (slice_index points t) width ew (length-row width t s.k given b lg)
    (λ c l.
    let poly : IsPoly s.k (λ y. column_value points given width y c) =
    subst (λ (k : ℕ). IsPoly k (λ y. column_value points given width y c)) count (column_poly points given width c) in
    row_byte width t c given l
    ∙ sym (column_at points given width c t named (omega arith) (bytes (t * width + c)))
    ∙ sym (share_from_poly s out width c (λ y. column_value points given width y c) poly ew (λ u m. h u c m l) (slice_index points t)))

-- ---- one share more than three pieces is their sum
sum_weights : (weight (λ t. t) 3 0 3 ≡ 1) × (weight (λ t. t) 3 1 3 ≡ 1) × (weight (λ t. t) 3 2 3 ≡ 1)
unfolding weight numerator product carryless remainder inverse squares
sum_weights = (refl, refl, refl)

fourth : (v : ℕ → ℕ) → ((i : ℕ) → v i < 256) → interpolant (λ t. t) v 3 3 ≡ bit_xor (bit_xor (v 0) (v 1)) (v 2)
unfolding interpolant combine
fourth v h =
    rw (sum_weights.0, sum_weights.1, sum_weights.2, product_one (v 0) (h 0), product_one (v 1) (h 1), product_one (v 2) (h 2), xor_zero_l (v 0)) refl

at_three : (s : Shape) (pieces : List ℕ) (c : ℕ) → s.k ≡ 3
    → share_byte s pieces 3 c ≡ interpolant (λ t. t) (λ t. slice_index pieces (t * (length pieces / s.k) + c)) 3 3
unfolding share_byte
at_three s pieces c e = ap (λ (k : ℕ). interpolant (λ t. t) (λ t. slice_index pieces (t * (length pieces / s.k) + c)) k 3) e

pub fourth_share : (s : Shape) (pieces : List ℕ) (c : ℕ) → s.k ≡ 3 → ((i : ℕ) → slice_index pieces i < 256)
    → share_byte s pieces 3 c ≡ bit_xor (bit_xor (share_byte s pieces 0 c) (share_byte s pieces 1 c)) (share_byte s pieces 2 c)
fourth_share s pieces c e bytes =
    let v : ℕ → ℕ = λ t. slice_index pieces (t * (length pieces / s.k) + c) in
    rw (share_byte_below s pieces 0 c bytes (omega arith), share_byte_below s pieces 1 c bytes (omega arith), share_byte_below s pieces 2 c bytes (omega arith))
    (at_three s pieces c e ∙ fourth v (λ i. bytes (i * (length pieces / s.k) + c)))

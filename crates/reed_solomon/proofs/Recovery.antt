-- The code: what is written is a dispersal, and k shares of one give its pieces.
use Rattle.std.proofs.Common.{◌/◌, ◌≡◌, ℕ, ◌+◌, ◌*◌, ◌<◌, ◌≤◌, List, length, take, slice_index, refl, sym, ap, ◌∙◌, arith, subst, length-take-le, true, eqb, eqb-true}
use Rattle.std.proofs.lemmas.List.{get_or-take}
use Rattle.reed_solomon.specs.Interpolation.{column_value, ArePoints}
use Rattle.reed_solomon.specs.Dispersal.{value_at, IsOnPolynomial, Dispersed, AreChoice, AreSharesAt}
use Rattle.gf256.proofs.Bilinear.{all_to, from_all_to}
use Rattle.reed_solomon.specs.declared.TheConstants.{NUMBERS}
use Rattle.cd_base.specs.declared.shape.Shape.{Shape}
use Rattle.reed_solomon.proofs.Polynomial.{IsPoly, poly_from_list, poly_to_list}
use Rattle.reed_solomon.proofs.Lagrange.{column_poly, column_at, column_recovers}
use Rattle.std.proofs.Math.Nat.{mul-div_cancel_left}
use Rattle.reed_solomon.proofs.Rows.{same_rows, same_width, place_below, rows_fit}

-- ---- encode
pub on_polynomial : (s : Shape) (width : ℕ) (points values shares : List ℕ) (c : ℕ) → length points ≡ s.k
    → ((j : ℕ) → j < s.n → slice_index shares (j * width + c) ≡ column_value points values width j c)
    → IsOnPolynomial s width shares c
on_polynomial s width points values shares c count h =
    let (cs, r) = poly_to_list (length points) (λ y. column_value points values width y c) (column_poly points values width c) in
    record { coefficients = cs; count = r.0 ∙ count; bytes = r.1; values = λ j l. h j l ∙ r.2 j }

pub numbered : (k : ℕ) (points : List ℕ) → k < 256 → ((t : ℕ) → t < k → slice_index points t ≡ t) → ArePoints k (λ t. slice_index points t)
numbered k points small h = record {
  bytes = λ i l. let e : slice_index points i ≡ i = h i l in omega arith;
  apart = λ i j l m. λ w. let e : slice_index points i ≡ i = h i (omega arith) in let f : slice_index points j ≡ j = h j m in omega arith;
}

pub dispersed : (s : Shape) (width : ℕ) (points given shares : List ℕ) → s.k < s.n → s.n ≤ 16 → length points ≡ s.k
    → ((t : ℕ) → t < s.k → slice_index points t ≡ t) → ((i : ℕ) → slice_index given i < 256)
    → length given ≡ s.k * width → length shares ≡ s.n * width
    → ((j c : ℕ) → j < s.n → c < width → slice_index shares (j * width + c) ≡ column_value points given width j c)
    → Dispersed s given shares
dispersed s width points given shares spare few count own bytes lg ls h =
    let named : ArePoints (length points) (λ t. slice_index points t) = numbered (length points) points (omega arith) (λ t l. own t (omega arith)) in
    let fits : s.k * width ≤ length shares = rows_fit s.k s.n width (length shares) spare ls in
    let piece : (j c : ℕ) → j < s.k → c < width → column_value points given width j c ≡ slice_index given (j * width + c) = λ j c l m.
    let at : slice_index points j ≡ j = own j l in
    ap (λ (z : ℕ). column_value points given width z c) (sym at) ∙ column_at points given width c j named (omega arith) (bytes (j * width + c)) in
    record {
      width = width;
      pieces_length = lg;
      shares_length = ls;
      columns = λ c m. on_polynomial s width points given shares c count (λ j l. h j c l m);
      systematic = same_rows (take (s.k * width) shares) given s.k width (length-take-le (s.k * width) shares fits) lg
          (λ j c l m. get_or-take (s.k * width) shares (j * width + c) 0 (place_below j width c s.k l m) ∙ h j c (omega arith) m ∙ piece j c l m);
    }

-- ---- decode
pub chosen : (s : Shape) (points : List ℕ) → s.n ≤ 16 → AreChoice s points → ArePoints (length points) (λ t. slice_index points t)
chosen s points few h =
    let e : length points ≡ s.k = h.count in
    record {
      bytes = λ i l. let b : slice_index points i < s.n = h.within i (omega arith) in omega arith;
      apart = λ i j l m. h.apart i j l (omega arith);
    }

pub recovered : (s : Shape) (width : ℕ) (points given out original shares : List ℕ) → 0 < s.k → s.k < s.n → s.n ≤ 16 → AreChoice s points
    → length given ≡ s.k * width → length out ≡ length given
    → ((j c : ℕ) → j < s.k → c < width → slice_index out (j * width + c) ≡ column_value points given width j c)
    → Dispersed s original shares → AreSharesAt s shares points given → out ≡ original
recovered s width points given out original shares pos spare few choice lg lo h d a =
    let count : length points ≡ s.k = choice.count in
    let wa : a.width ≡ width = same_width s.k a.width width pos (sym a.given_length ∙ lg) in
    let wd : d.width ≡ width = same_width s.n d.width width (omega arith) (sym d.shares_length ∙ a.shares_length ∙ ap (λ (z : ℕ). s.n * z) wa) in
    same_rows out original s.k width (lo ∙ lg) (d.pieces_length ∙ ap (λ (z : ℕ). s.k * z) wd) (λ j c l m.
    let col : IsOnPolynomial s d.width shares c = d.columns c (omega arith) in
    let cs : List ℕ = col.coefficients in
    let poly : IsPoly (length points) (value_at cs) = subst (λ (k : ℕ). IsPoly k (value_at cs)) (col.count ∙ sym count) (poly_from_list cs col.bytes) in
    let value : (i : ℕ) → i < s.n → slice_index shares (i * width + c) ≡ value_at cs i = λ i b.
    ap (λ (z : ℕ). slice_index shares (i * z + c)) (sym wd) ∙ col.values i b in
    let given_at : (t : ℕ) → t < length points → slice_index given (t * width + c) ≡ value_at cs (slice_index points t) = λ t b.
    let b' : t < s.k = omega arith in
    ap (λ (z : ℕ). slice_index given (t * z + c)) (sym wa) ∙ a.same t c b' (omega arith)
    ∙ ap (λ (z : ℕ). slice_index shares (slice_index points t * z + c)) wa ∙ value (slice_index points t) (choice.within t b') in
    h j c l m ∙ column_recovers points given width c (value_at cs) poly (chosen s points few choice) given_at j
    ∙ sym (value j (omega arith))
    ∙ sym (get_or-take (s.k * width) shares (j * width + c) 0 (place_below j width c s.k l m))
    ∙ ap (λ (z : ℕ). slice_index (take (s.k * z) shares) (j * width + c)) (sym wd)
    ∙ ap (λ (z : List ℕ). slice_index z (j * width + c)) d.systematic)

-- ---- the numbers of the pieces
numbers_all : all_to 16 (λ t. eqb (slice_index NUMBERS t) t) ≡ true
numbers_all = refl

pub number_at : (k t : ℕ) → k ≤ 16 → t < k → slice_index (take k NUMBERS) t ≡ t
number_at k t few l = get_or-take k NUMBERS t 0 l ∙ eqb-true _ _ (from_all_to 16 (λ t. eqb (slice_index NUMBERS t) t) numbers_all t (omega arith))

pub numbers_length : (k : ℕ) → k ≤ 16 → length (take k NUMBERS) ≡ k
numbers_length k few = length-take-le k NUMBERS few

pub numbers_named : (k : ℕ) → k ≤ 16 → ArePoints (length (take k NUMBERS)) (λ t. slice_index (take k NUMBERS) t)
numbers_named k few =
    let e : length (take k NUMBERS) ≡ k = numbers_length k few in
    numbered (length (take k NUMBERS)) (take k NUMBERS) (omega arith) (λ t l. number_at k t few (omega arith))

-- ---- the pieces determine the shares
determined : (s : Shape) (pieces shares : List ℕ) (w : ℕ) (d : Dispersed s pieces shares) → d.width ≡ w → s.k < s.n → s.n ≤ 16
    → (j c : ℕ) → j < s.n → c < w → slice_index shares (j * w + c) ≡ column_value (take s.k NUMBERS) pieces w j c
determined s pieces shares w d wd spare few j c l m =
    let points : List ℕ = take s.k NUMBERS in
    let count : length points ≡ s.k = numbers_length s.k (omega arith) in
    let col : IsOnPolynomial s d.width shares c = d.columns c (omega arith) in
    let cs : List ℕ = col.coefficients in
    let poly : IsPoly (length points) (value_at cs) = subst (λ (k : ℕ). IsPoly k (value_at cs)) (col.count ∙ sym count) (poly_from_list cs col.bytes) in
    let value : (i : ℕ) → i < s.n → slice_index shares (i * w + c) ≡ value_at cs i = λ i b.
    ap (λ (z : ℕ). slice_index shares (i * z + c)) (sym wd) ∙ col.values i b in
    let piece : (t : ℕ) → t < length points → slice_index pieces (t * w + c) ≡ value_at cs (slice_index points t) = λ t b.
    let b' : t < s.k = omega arith in
    ap (λ (z : List ℕ). slice_index z (t * w + c)) (sym d.systematic)
    ∙ ap (λ (z : ℕ). slice_index (take (s.k * z) shares) (t * w + c)) wd
    ∙ get_or-take (s.k * w) shares (t * w + c) 0 (place_below t w c s.k b' m)
    ∙ value t (omega arith)
    ∙ ap (λ (z : ℕ). value_at cs z) (sym (number_at s.k t (omega arith) b')) in
    value j l ∙ sym (column_recovers points pieces w c (value_at cs) poly (numbers_named s.k (omega arith)) piece j)

pub dispersed_only : (s : Shape) (pieces a b : List ℕ) → 0 < s.k → s.k < s.n → s.n ≤ 16 → Dispersed s pieces a → Dispersed s pieces b → a ≡ b
dispersed_only s pieces a b pos spare few da db =
    let w : ℕ = da.width in
    let same : db.width ≡ w = same_width s.k db.width w pos (sym db.pieces_length ∙ da.pieces_length) in
    same_rows a b s.n w da.shares_length (db.shares_length ∙ ap (λ (z : ℕ). s.n * z) same) (λ j c l m.
    determined s pieces a w da refl spare few j c l m ∙ sym (determined s pieces b w db same spare few j c l m))

-- for callers: a length of k rows is k times its quotient by k
pub whole_rows : (k w n : ℕ) → 0 < k → n ≡ k * w → (n / k ≡ w) × (n ≡ k * (n / k))
whole_rows k w n pos e =
    let q : n / k ≡ w = ap (λ (z : ℕ). z / k) e ∙ mul-div_cancel_left w pos in
    (q, e ∙ ap (λ (z : ℕ). k * z) (sym q))

-- Rows of one width that lie one after another.
use Rattle.std.proofs.Common.{length-drop, ◌≡◌, ℕ, ◌+◌, ◌-◌, ◌*◌, ◌<◌, ◌≤◌, List, ◌++◌, length, take, drop, slice_index, sym, ap, ◌∙◌, arith, mul_comm, add-mul, one-mul, length-take-le, mul-le-mul_right, zero, suc, ◌/◌, ◌%◌, ext_get_or, div-add-mod'}
use Rattle.std.proofs.lemmas.List.{get_or-take, get_or-drop, get_or_append_left, get_or-append_right}
use Rattle.std.proofs.lemmas.Nat.{mul-add-lt, mod_below, rows}
use Rattle.std.proofs.Math.Nat.{mul-div_cancel_left}
use borrow.Rule.Slice.PartMut.{put_mid, post_of}

next_row : (j w : ℕ) → (j + 1) * w ≡ j * w + w
next_row j w = add-mul j 1 w ∙ ap (λ (z : ℕ). j * w + z) (one-mul w)

pub place_below : (i w c j : ℕ) → i < j → c < w → i * w + c < j * w
place_below i w c j h l = rw (mul_comm j w) (mul-add-lt i w c j h l)

-- a byte of a row that is lent
pub row_at : (xs : List ℕ) (t w v c : ℕ) → v ≡ w → c < w
    → slice_index (take ((t + 1) * v - t * v) (drop (t * v) xs)) c ≡ slice_index xs (t * w + c)
row_at xs t w v c e h =
    let size : (t + 1) * v - t * v ≡ w = rw (next_row t v) (omega arith) in
    let below : c < (t + 1) * v - t * v = omega arith in
    get_or-take ((t + 1) * v - t * v) (drop (t * v) xs) c 0 below ∙ get_or-drop (t * v) xs c 0 ∙ ap (λ (z : ℕ). slice_index xs (t * z + c)) e

pub first_row_at : (xs : List ℕ) (w c : ℕ) → c < w → slice_index (take w xs) c ≡ slice_index xs (0 * w + c)
first_row_at xs w c h =
    let place : c ≡ 0 * w + c = omega arith in
    get_or-take w xs c 0 h ∙ ap (λ (z : ℕ). slice_index xs z) place

-- what a write to row j leaves of the rows before it
pub row_kept : (xs ys : List ℕ) (i j w k c : ℕ) → i < j → c < w → j * w ≤ length xs
    → slice_index (put_mid (j * w) k xs ys) (i * w + c) ≡ slice_index xs (i * w + c)
row_kept xs ys i j w k c h l fits =
    let below : i * w + c < j * w = place_below i w c j h l in
    let len : length (take (j * w) xs) ≡ j * w = length-take-le (j * w) xs fits in
    get_or_append_left (take (j * w) xs) (ys ++ post_of (j * w) k xs) 0 (i * w + c) (omega arith)
    ∙ get_or-take (j * w) xs (i * w + c) 0 below

-- and what it puts there
pub row_put : (xs ys : List ℕ) (j w k c : ℕ) → c < length ys → j * w ≤ length xs
    → slice_index (put_mid (j * w) k xs ys) (j * w + c) ≡ slice_index ys c
row_put xs ys j w k c l fits =
    let len : length (take (j * w) xs) ≡ j * w = length-take-le (j * w) xs fits in
    let back : j * w + c - j * w ≡ c = omega arith in
    get_or-append_right (take (j * w) xs) (ys ++ post_of (j * w) k xs) (j * w) (j * w + c) 0 len (omega arith)
    ∙ rw back (get_or_append_left ys (post_of (j * w) k xs) 0 c l)

pub rows_fit : (j n w total : ℕ) → j < n → total ≡ n * w → j * w ≤ total
rows_fit j n w total h e =
    let le : j * w ≤ n * w = mul-le-mul_right w (omega arith) in
    omega arith

-- a place is a row's and a column's
pub place_of : (i w : ℕ) → 0 < w → (i / w) * w + i % w ≡ i
place_of i w h = omega (arith, div-add-mod' i w)

pub row_of_place : (i n w : ℕ) → i < n * w → i / w < n
row_of_place i n w h = grind (arith, rows)

pub width_pos : (i n w : ℕ) → i < n * w → 0 < w
width_pos i n zero h = absurd (grind arith)
width_pos i n (suc w) h = omega arith

-- lists of rows that agree at each row and column agree
pub same_rows : (xs ys : List ℕ) (n w : ℕ) → length xs ≡ n * w → length ys ≡ n * w
    → ((j c : ℕ) → j < n → c < w → slice_index xs (j * w + c) ≡ slice_index ys (j * w + c)) → xs ≡ ys
same_rows xs ys n w ex ey h = ext_get_or 0 xs ys (ex ∙ sym ey) (λ i l.
    let lt : i < n * w = omega arith in
    let pos : 0 < w = width_pos i n w lt in
    let e : (i / w) * w + i % w ≡ i = place_of i w pos in
    rw e at (h (i / w) (i % w) (row_of_place i n w lt) (mod_below i w pos)))

pub same_width : (k a b : ℕ) → 0 < k → k * a ≡ k * b → a ≡ b
same_width k a b h e = sym (mul-div_cancel_left a h) ∙ ap (λ (z : ℕ). z / k) e ∙ mul-div_cancel_left b h

-- the same, of a row between its start and a width on
pub row_from : (xs : List ℕ) (t w c : ℕ) → c < w → slice_index (take (t * w + w - t * w) (drop (t * w) xs)) c ≡ slice_index xs (t * w + c)
row_from xs t w c h =
    let size : t * w + w - t * w ≡ w = omega arith in
    get_or-take (t * w + w - t * w) (drop (t * w) xs) c 0 (omega arith) ∙ get_or-drop (t * w) xs c 0

pub row_long : (xs : List ℕ) (t n w : ℕ) → t < n → length xs ≡ n * w → length (take (t * w + w - t * w) (drop (t * w) xs)) ≡ w
row_long xs t n w h e =
    let size : t * w + w - t * w ≡ w = omega arith in
    let le : (t + 1) * w ≤ n * w = mul-le-mul_right w (omega arith) in
    let fits : t * w + w ≤ length xs = omega (arith, next_row t w) in
    length-take-le (t * w + w - t * w) (drop (t * w) xs) (omega (arith, length-drop (t * w) xs)) ∙ size

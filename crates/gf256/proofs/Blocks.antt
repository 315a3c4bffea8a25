-- Bytes in blocks of sixteen, one after another.
use Rattle.std.proofs.Common.{◌≡◌, ℕ, ◌+◌, ◌-◌, ◌<◌, ◌≤◌, List, ◌++◌, length, take, drop, get_or, bit_xor, sym, ap, ◌∙◌, arith, length-take-le, inl, inr}
use Rattle.std.proofs.lemmas.Bool.{cases_lt}
use Rattle.std.proofs.lemmas.List.{get_or-take, get_or-drop, get_or_append_left, get_or-append_right, get_or_past}
use Rattle.std.specs.Int.Bits.{xor_zero_r}
use Rattle.gf256.proofs.Laws.{product_comm, product_zero}
use Rattle.gf256.specs.Field.{product}
use borrow.Rule.Slice.PartMut.{put_mid, post_of}

put_below : (a k x : ℕ) (xs ys : List ℕ) → x < a → a ≤ length xs → get_or (put_mid a k xs ys) x 0 ≡ get_or xs x 0
put_below a k x xs ys h fits =
    let len : length (take a xs) ≡ a = length-take-le a xs fits in
    get_or_append_left (take a xs) (ys ++ post_of a k xs) 0 x (omega arith) ∙ get_or-take a xs x 0 h

put_at : (a k x : ℕ) (xs ys : List ℕ) → a ≤ x → x - a < length ys → a ≤ length xs → get_or (put_mid a k xs ys) x 0 ≡ get_or ys (x - a) 0
put_at a k x xs ys h l fits =
    let len : length (take a xs) ≡ a = length-take-le a xs fits in
    get_or-append_right (take a xs) (ys ++ post_of a k xs) a x 0 len h ∙ get_or_append_left ys (post_of a k xs) 0 (x - a) l

put_above : (a k x : ℕ) (xs ys : List ℕ) → length ys ≡ k → a + k ≤ x → a ≤ length xs → get_or (put_mid a k xs ys) x 0 ≡ get_or xs x 0
put_above a k x xs ys ly h fits =
    let len : length (take a xs) ≡ a = length-take-le a xs fits in
    let place : a + (k + (x - a - k)) ≡ x = omega arith in
    get_or-append_right (take a xs) (ys ++ post_of a k xs) a x 0 len (omega arith)
    ∙ get_or-append_right ys (post_of a k xs) k (x - a) 0 ly (omega arith)
    ∙ get_or-drop k (drop a xs) (x - a - k) 0 ∙ get_or-drop a xs (k + (x - a - k)) 0 ∙ ap (λ (z : ℕ). get_or xs z 0) place

-- old became new by the products of c and source, below n, and is as it was from there on
abbrev pub AddedBelow : ℕ → ℕ → List ℕ → List ℕ → List ℕ → Type 0
AddedBelow n c source old new =
    ((x : ℕ) → x < n → get_or new x 0 ≡ bit_xor (get_or old x 0) (product c (get_or source x 0)))
    × ((x : ℕ) → n ≤ x → get_or new x 0 ≡ get_or old x 0)

-- one part more
pub added_more : (a e k n c : ℕ) (source old new ys : List ℕ) → AddedBelow a c source old new → n ≡ a + k → e - a ≡ k → a ≤ length new → length ys ≡ k
    → ((j : ℕ) → j < k → get_or ys j 0 ≡ bit_xor (get_or (take (e - a) (drop a new)) j 0) (product c (get_or (take (e - a) (drop a source)) j 0)))
    → AddedBelow n c source old (put_mid a (e - a) new ys)
added_more a e k n c source old new ys held en ek fits ly h = (
  λ x l. elim (cases_lt x a) [
    | inl below ↦ put_below a (e - a) x new ys below fits ∙ held.0 x below
    | inr above ↦
        let j : ℕ = x - a in
        let lt : j < k = omega arith in
        let place : a + (x - a) ≡ x = omega arith in
        let read : (zs : List ℕ) → get_or (take (e - a) (drop a zs)) j 0 ≡ get_or zs x 0 = λ zs.
        get_or-take (e - a) (drop a zs) j 0 (omega arith) ∙ get_or-drop a zs j 0 ∙ ap (λ (z : ℕ). get_or zs z 0) place in
        put_at a (e - a) x new ys above (omega arith) fits ∙ h j lt
        ∙ ap (λ (z : ℕ). bit_xor z (product c (get_or (take (e - a) (drop a source)) j 0))) (read new ∙ held.1 x above)
        ∙ ap (λ (z : ℕ). bit_xor (get_or old x 0) (product c z)) (read source)
  ],
  λ x l. put_above a (e - a) x new ys (omega arith) (omega arith) fits ∙ held.1 x (omega arith),
)

pub added_all : (n c : ℕ) (source old new : List ℕ) → length source ≤ n → AddedBelow n c source old new
    → (i : ℕ) → get_or new i 0 ≡ bit_xor (get_or old i 0) (product c (get_or source i 0))
added_all n c source old new e held i = elim (cases_lt i n) [
  | inl l ↦ held.0 i l
  | inr m ↦
      let none : product c (get_or source i 0) ≡ 0 = ap (λ (z : ℕ). product c z) (get_or_past source i 0 (omega arith)) ∙ product_comm c 0 ∙ product_zero c in
      rw none (held.1 i m ∙ sym (xor_zero_r (get_or old i 0)))
]

-- The items that are read are those that lie in the bytes.
use Rattle.std.proofs.Common.{◌≡◌, ◌≢◌, ℕ, zero, suc, ◌-◌, ◌+◌, ◌*◌, ◌≤◌, ◌<◌, Bool, true, false, cond, ltb, zero-add, Some, None, slice_get, ◌++◌, inl, inr, List, [], ◌∷◌, length, take, drop, get_or, Result, Ok, Err, refl, sym, ap, ◌∙◌, arith, eqb, length-drop}
use Rattle.std.specs.Int.{w16, w32, w64, from_be_bytes}
use Rattle.std.proofs.lemmas.Bool.{ltb-false, eq-eqb, ne_eqb}
use Rattle.std.proofs.lemmas.List.{drop-drop, take_all, take_more}
use Rattle.std.proofs.lemmas.Option.{slice_get-get_or, slice_get_past}
use Rattle.grammar.specs.Readers.{◌>>=◌, ◌▷▷◌}
use Rattle.grammar.specs.Fields.{number_at, bytes_at, checked}
use Rattle.grammar.proofs.Laws.{bind_ok, bind_err, ok_is}
use Rattle.grammar.proofs.FieldLaws.{guard_ok, test_ok}
use Rattle.grammar.specs.CdBase.Lengths.{share_len_of}
use Rattle.grammar.specs.CdBase.shape.Shape.{Shape}
use Rattle.recipe.specs.declared.items.Item.{Item}
use Rattle.recipe.specs.Spelling.{is_name_len, is_file_len, is_count, is_len, total}
use Rattle.recipe.specs.Reading.{make_item, item_at, items_at, file_at, ended, tail_at, recipe_left}
use Rattle.recipe.specs.InPlace.{first_item, items_in}
use Rattle.recipe.specs.Totals.{total_at}

-- an item takes 36 bytes
item_here : (last : Bool) (bytes : List ℕ) (i : Item) (rest : List ℕ) → item_at last bytes ≡ Ok (i, rest) → (i ≡ first_item bytes) × (rest ≡ drop 36 bytes) × (36 ≤ length bytes)
unfolding item_at
item_here last bytes i rest e =
    let len_at : List ℕ → List ℕ → Result (ℕ × List ℕ) ℕ = λ _. checked (is_len last) (number_at w32) in
    let a = bind_ok ((bytes_at 32 ▷▷ len_at) bytes) (λ x. Ok (make_item x.0, x.1)) (i, rest) e in
    let b = bind_ok (bytes_at 32 bytes) (λ x. checked (is_len last) (number_at w32) x.1 >>= λ y. Ok ((x.0, y.0), y.1)) a.0 a.1 in
    let c = bind_ok (checked (is_len last) (number_at w32) b.0.1) (λ y. Ok ((b.0.0, y.0), y.1)) a.0 b.2 in
    let d = bind_ok (number_at w32 b.0.1) (λ x. cond (is_len last x.0) (Ok x) (Err (length b.0.1))) c.0 c.1 in
    let f = guard_ok (ltb (length bytes) 32) 0 (take 32 bytes, drop 32 bytes) b.0 b.1 in
    let g = guard_ok (ltb (length b.0.1) 4) 0 (from_be_bytes w32 (take 4 b.0.1), drop 4 b.0.1) d.0 d.1 in
    let h = test_ok (is_len last d.0.0) (length b.0.1) d.0 c.0 d.2 in
    let x : ((b.0.0, c.0.0), c.0.1) ≡ a.0 = ok_is ((b.0.0, c.0.0), c.0.1) a.0 c.2 in
    let y : (make_item a.0.0, a.0.1) ≡ (i, rest) = ok_is (make_item a.0.0, a.0.1) (i, rest) a.2 in
    let len : c.0 ≡ (from_be_bytes w32 (take 4 b.0.1), drop 4 b.0.1) = sym (g.1 ∙ h.1) in
    let long : length b.0.1 ≡ length bytes - 32 = ap (λ (p : List ℕ × List ℕ). length p.1) (sym f.1) ∙ length-drop 32 bytes in
    let enough : 32 ≤ length bytes = ltb-false _ _ f.0 in
    let more : 4 ≤ length b.0.1 = ltb-false _ _ g.0 in (
      sym (ap (λ (p : Item × List ℕ). p.0) y)
          ∙ ap (λ (p : (List ℕ × ℕ) × List ℕ). make_item p.0) (sym x)
          ∙ ap (λ (p : ℕ × List ℕ). make_item (b.0.0, p.0)) len
          ∙ ap (λ (p : List ℕ × List ℕ). make_item (p.0, from_be_bytes w32 (take 4 p.1))) (sym f.1),
      sym (ap (λ (p : Item × List ℕ). p.1) y)
          ∙ ap (λ (p : (List ℕ × ℕ) × List ℕ). p.1) (sym x)
          ∙ ap (λ (p : ℕ × List ℕ). p.1) len
          ∙ ap (λ (p : List ℕ × List ℕ). drop 4 p.1) (sym f.1)
          ∙ drop-drop 4 32 bytes,
      omega arith,
    )

-- so many items
pub items_here : (n : ℕ) (bytes : List ℕ) (xs : List Item) (rest : List ℕ) → items_at n bytes ≡ Ok (xs, rest) → (xs ≡ items_in n bytes) × (length bytes ≡ 36 * n + length rest)
unfolding items_at items_in
items_here zero bytes xs rest e =
    let none : List Item = [] in
    let y : (none, bytes) ≡ (xs, rest) = ok_is (none, bytes) (xs, rest) e in
    (sym (ap (λ (p : List Item × List ℕ). p.0) y), ap (λ (p : List Item × List ℕ). length p.1) y ∙ sym (zero-add (length rest)))
items_here (suc n) bytes xs rest e =
    let a = bind_ok (item_at (eqb n 0) bytes) (λ first. items_at n first.1 >>= λ others. Ok (first.0 ∷ others.0, others.1)) (xs, rest) e in
    let b = bind_ok (items_at n a.0.1) (λ others. Ok (a.0.0 ∷ others.0, others.1)) (xs, rest) a.2 in
    let first = item_here (eqb n 0) bytes a.0.0 a.0.1 a.1 in
    let second = items_here n a.0.1 b.0.0 b.0.1 b.1 in
    let y : (a.0.0 ∷ b.0.0, b.0.1) ≡ (xs, rest) = ok_is (a.0.0 ∷ b.0.0, b.0.1) (xs, rest) b.2 in
    let same : length b.0.1 ≡ length rest = ap (λ (p : List Item × List ℕ). length p.1) y in
    let others : length a.0.1 ≡ length bytes - 36 = ap length first.1 ∙ length-drop 36 bytes in (
      sym (ap (λ (p : List Item × List ℕ). p.0) y)
          ∙ ap (λ (i : Item). i ∷ b.0.0) first.0
          ∙ ap (λ (is : List Item). first_item bytes ∷ is) (second.0 ∙ ap (items_in n) first.1),
      omega (arith, first.2, second.1),
    )

-- what was read where only the sum is kept
pub total_here : (n : ℕ) (bytes : List ℕ) (sum : ℕ) (rest : List ℕ) → total_at n bytes ≡ Ok (sum, rest) → (items_at n bytes ≡ Ok (items_in n bytes, rest)) × (total (items_in n bytes) ≡ sum) × (length bytes ≡ 36 * n + length rest)
total_here n bytes sum rest e =
    let a = bind_ok (items_at n bytes) (λ x. Ok (0 + total x.0, x.1)) (sum, rest) e in
    let y : (0 + total a.0.0, a.0.1) ≡ (sum, rest) = ok_is (0 + total a.0.0, a.0.1) (sum, rest) a.2 in
    let h = items_here n bytes a.0.0 a.0.1 a.1 in
    let same : length a.0.1 ≡ length rest = ap (λ (p : ℕ × List ℕ). length p.1) y in (
      a.1 ∙ ap (λ (is : List Item). Ok (is, a.0.1)) h.0 ∙ ap (λ (p : ℕ × List ℕ). Ok (items_in n bytes, p.1)) y,
      ap total (sym h.0) ∙ sym (zero-add (total a.0.0)) ∙ ap (λ (p : ℕ × List ℕ). p.0) y,
      omega (arith, h.1),
    )

-- where a sum could not be read
pub total_stops : (n : ℕ) (bytes : List ℕ) (left : ℕ) → total_at n bytes ≡ Err left → items_at n bytes ≡ Err left
total_stops n bytes left e = elim (bind_err (items_at n bytes) (λ x. Ok (0 + total x.0, x.1)) left e) [
  | inl h ↦ h
  | inr a ↦ absurd (let k = a.2 in cc)
]

-- ---- the tail of a recipe

empty : (rest : List ℕ) → true ≡ eqb (length rest) 0 → rest ≡ []
empty [] e = refl
empty (b ∷ rest) e = absurd (let k : eqb (suc (length rest)) 0 ≡ false = ne_eqb _ _ (λ h. omega arith) in cc)

not_empty : (rest : List ℕ) → eqb (length rest) 0 ≡ false → (x : ℕ × (ℕ × List Item)) (left : ℕ) → ended left (x, rest) ≡ Err (length rest)
not_empty [] e x left = absurd cc
not_empty (b ∷ rest) e x left = refl

file_here : (bytes : List ℕ) (file count sum : ℕ) (behind items rest : List ℕ) → checked is_file_len (number_at w64) bytes ≡ Ok (file, behind) → checked (is_count file) (number_at w32) behind ≡ Ok (count, items) → total_at count items ≡ Ok (sum, rest)
    → tail_at bytes ≡ ended (length bytes) ((file, (count, items_in count items)), rest)
unfolding tail_at file_at
file_here bytes file count sum behind items rest a b c = let t = total_here count items sum rest c in rw (a, b, t.0) refl

pub tail_is : (bytes : List ℕ) (file count sum : ℕ) (behind items rest : List ℕ) → checked is_file_len (number_at w64) bytes ≡ Ok (file, behind) → checked (is_count file) (number_at w32) behind ≡ Ok (count, items) → total_at count items ≡ Ok (sum, rest)
    → true ≡ eqb (length rest) 0 → sum ≡ file → tail_at bytes ≡ Ok (file, items_in count items)
tail_is bytes file count sum behind items rest a b c e same =
    let t = total_here count items sum rest c in
    let g : eqb (total (items_in count items)) file ≡ true = eq-eqb _ _ (t.1 ∙ same) in
    file_here bytes file count sum behind items rest a b c ∙ ap (λ (r : List ℕ). ended (length bytes) ((file, (count, items_in count items)), r)) (empty rest e) ∙ rw g refl

pub tail_room : (count sum : ℕ) (items rest : List ℕ) → total_at count items ≡ Ok (sum, rest) → true ≡ eqb (length rest) 0 → length items ≡ 36 * count
tail_room count sum items rest c e = let t = total_here count items sum rest c in let none : length rest ≡ 0 = ap length (empty rest e) in omega (arith, t.2)

pub tail_longer : (bytes : List ℕ) (file count sum : ℕ) (behind items rest : List ℕ) → checked is_file_len (number_at w64) bytes ≡ Ok (file, behind) → checked (is_count file) (number_at w32) behind ≡ Ok (count, items) → total_at count items ≡ Ok (sum, rest)
    → eqb (length rest) 0 ≡ false → tail_at bytes ≡ Err (length rest)
tail_longer bytes file count sum behind items rest a b c e = file_here bytes file count sum behind items rest a b c ∙ not_empty rest e (file, (count, items_in count items)) (length bytes)

pub tail_wrong : (bytes : List ℕ) (file count sum : ℕ) (behind items rest : List ℕ) → checked is_file_len (number_at w64) bytes ≡ Ok (file, behind) → checked (is_count file) (number_at w32) behind ≡ Ok (count, items) → total_at count items ≡ Ok (sum, rest)
    → true ≡ eqb (length rest) 0 → sum ≢ file → tail_at bytes ≡ Err (length bytes)
tail_wrong bytes file count sum behind items rest a b c e other =
    let t = total_here count items sum rest c in
    let g : eqb (total (items_in count items)) file ≡ false = ne_eqb _ _ (λ h. other (sym t.1 ∙ h)) in
    file_here bytes file count sum behind items rest a b c ∙ ap (λ (r : List ℕ). ended (length bytes) ((file, (count, items_in count items)), r)) (empty rest e) ∙ rw g refl

pub tail_stops : (bytes : List ℕ) (file count left : ℕ) (behind items : List ℕ) → checked is_file_len (number_at w64) bytes ≡ Ok (file, behind) → checked (is_count file) (number_at w32) behind ≡ Ok (count, items) → total_at count items ≡ Err left → tail_at bytes ≡ Err left
unfolding tail_at file_at
tail_stops bytes file count left behind items a b c = rw (a, b, total_stops count items left c) refl

-- ---- a recipe

pub left_is : (shape : Shape) (bytes : List ℕ) (n : ℕ) (behind share rest : List ℕ) (file : ℕ) (is : List Item) → checked is_name_len (number_at w16) bytes ≡ Ok (n, behind) → bytes_at (share_len_of shape.k n) behind ≡ Ok (share, rest) → tail_at rest ≡ Ok (file, is)
    → recipe_left shape bytes ≡ Ok (record { name_len = n; name_share = share; file_len = file; items = is })
unfolding recipe_left
left_is shape bytes n behind share rest file is a b c = rw (a, b, c) refl

-- an item at its place
pub item_placed : (n : ℕ) (bytes : List ℕ) (i : ℕ) (d : Item) → i < n → get_or (items_in n bytes) i d ≡ first_item (drop (36 * i) bytes)
unfolding items_in
item_placed zero bytes i d lt = absurd (omega arith)
item_placed (suc n) bytes zero d lt = refl
item_placed (suc n) bytes (suc i) d lt = item_placed n (drop 36 bytes) i d (omega arith) ∙ ap first_item (drop-drop (36 * i) 36 bytes ∙ ap (λ (m : ℕ). drop m bytes) (omega arith))

pub length-items_in : (n : ℕ) (bytes : List ℕ) → length (items_in n bytes) ≡ n
unfolding items_in
length-items_in zero bytes = refl
length-items_in (suc n) bytes = ap suc (length-items_in n (drop 36 bytes))

-- an item that is read where it lies
read_at : (bytes : List ℕ) (i : ℕ) → first_item (take (length bytes - 36 * i) (drop (36 * i) bytes)) ≡ first_item (drop (36 * i) bytes)
read_at bytes i = ap first_item (take_all (length bytes - 36 * i) (drop (36 * i) bytes) (omega (arith, length-drop (36 * i) bytes)))

pub got : (n : ℕ) (bytes : List ℕ) (i : ℕ) (found : Item) → i < n → found ≡ first_item (take (length bytes - 36 * i) (drop (36 * i) bytes)) → Some found ≡ slice_get (items_in n bytes) i
got n bytes i found lt e =
    let len = length-items_in n bytes in
    let at : slice_get (items_in n bytes) i ≡ Some (get_or (items_in n bytes) i found) = slice_get-get_or (items_in n bytes) i found (omega arith) in
    sym (at ∙ ap (λ (x : Item). Some x) (item_placed n bytes i found lt ∙ sym (read_at bytes i) ∙ sym e))

pub not_got : (n : ℕ) (bytes : List ℕ) (i : ℕ) → n ≤ i → None ≡ slice_get (items_in n bytes) i
not_got n bytes i le = let len = length-items_in n bytes in sym (slice_get_past (items_in n bytes) i (omega arith))

pub one_more : (n : ℕ) (bytes : List ℕ) (i : ℕ) (found : Item) → i < n → found ≡ first_item (take (length bytes - 36 * i) (drop (36 * i) bytes)) → take i (items_in n bytes) ++ found ∷ [] ≡ take (i + 1) (items_in n bytes)
one_more n bytes i found lt e =
    let len = length-items_in n bytes in
    let is : found ≡ get_or (items_in n bytes) i found = e ∙ read_at bytes i ∙ sym (item_placed n bytes i found lt) in
    ap (λ (x : Item). take i (items_in n bytes) ++ x ∷ []) is ∙ sym (take_more (items_in n bytes) i found (omega arith))

pub all_here : (n : ℕ) (bytes : List ℕ) (i : ℕ) → n ≤ i → take i (items_in n bytes) ≡ items_in n bytes
all_here n bytes i le = let len = length-items_in n bytes in take_all i (items_in n bytes) (omega arith)

-- The rules of items, one after the other.
use Rattle.std.proofs.Common.{◌≡◌, ℕ, ◌-◌, ◌+◌, ◌≤◌, ◌<◌, Bool, true, false, List, ◌∷◌, length, take, drop, get_or, refl, sym, subst, arith, eqb, IsTrue, length-drop, drop-cons, add-one}
use Rattle.std.proofs.lemmas.Bool.{ne_eqb}
use Rattle.std.specs.Prelude.{◌==◌}
use Rattle.std.proofs.lemmas.List.{drop_all}
use Rattle.std.proofs.lemmas.List.Sums.{sum_by_more_le}
use Rattle.recipe.specs.declared.items.Item.{Item}
use Rattle.recipe.specs.Spelling.{is_len, AreRecipeItems, total}
use Rattle.recipe.proofs.Loop.{same_last}

-- the lengths up to one item are no more than all
total_front : (items : List Item) (i : ℕ) (d : Item) → i < length items → total (take i items) + (get_or items i d).secret_len ≤ total items
total_front items i d lt = sum_by_more_le (λ (x : Item). x.secret_len) items i d lt

pub too_much : (items : List Item) (i : ℕ) (d : Item) (left file : ℕ) → i < length items → left < (get_or items i d).secret_len → left + total (take i items) ≡ file → false ≡ (total items == file)
too_much items i d left file lt less e = let t = total_front items i d lt in sym (ne_eqb _ _ (λ h. omega arith))

-- all obey the rules exactly where those from a place on do
pub record SameFrom (items : List Item) (i : ℕ) : Type 0 where
  pub down : AreRecipeItems items → AreRecipeItems (drop i items)
  pub up : AreRecipeItems (drop i items) → AreRecipeItems items

here : (items : List Item) (i : ℕ) (d : Item) → i < length items → drop i items ≡ get_or items i d ∷ drop (i + 1) items
here items i d lt = rw (add-one, drop-cons items i d lt) refl

last_here : (items : List Item) (i : ℕ) → i < length items → eqb (length items - i) 1 ≡ eqb (length (drop (i + 1) items)) 0
last_here items i lt = same_last (length items) i (length (drop (i + 1) items)) (omega (arith, length-drop (i + 1) items))

pub obeys : (items : List Item) (i : ℕ) (d : Item) → i < length items → SameFrom items i → length (get_or items i d).fp.0 ≡ 32 → is_len (eqb (length items - i) 1) (get_or items i d).secret_len ≡ true → SameFrom items (i + 1)
obeys items i d lt same len ok =
    let e = here items i d lt in
    let long : IsTrue (is_len (eqb (length (drop (i + 1) items)) 0) (get_or items i d).secret_len) = subst (λ (b : Bool). is_len b (get_or items i d).secret_len ≡ true) (last_here items i lt) ok in
    record {
      down = λ all. let h = subst AreRecipeItems e (same.down all) in h.1;
      up = λ rest. same.up (subst AreRecipeItems (sym e) ((len, long), rest));
    }

pub breaks : (items : List Item) (i : ℕ) (d : Item) → i < length items → SameFrom items i → is_len (eqb (length items - i) 1) (get_or items i d).secret_len ≡ false → AreRecipeItems items → ⊥
breaks items i d lt same bad all =
    let e = here items i d lt in
    let h = subst AreRecipeItems e (same.down all) in
    let good : is_len (eqb (length items - i) 1) (get_or items i d).secret_len ≡ true = subst (λ (b : Bool). is_len b (get_or items i d).secret_len ≡ true) (sym (last_here items i lt)) h.0.1 in
    absurd cc

pub none_left : (items : List Item) (i : ℕ) → length items ≤ i → SameFrom items i → AreRecipeItems items
none_left items i le same = same.up (subst AreRecipeItems (sym (drop_all i items le)) tt)

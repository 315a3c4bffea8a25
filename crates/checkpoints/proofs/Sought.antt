-- What is picked, as a set.
use Rattle.std.proofs.Common.{◌≡◌, ℕ, zero, suc, List, [], ◌∷◌, map, Option, Some, None, get_or, refl, sym, ap, ◌∙◌, subst, inl, inr, arith}
use Rattle.std.specs.Prelude.{option_map}
use Rattle.std.specs.List.{Contains}
use Rattle.cloud_memory.proofs.UserDedup.Owned.{contains_here, contains_later, contains_nothing, contains_cases}
use Rattle.cloud_disk.proofs.CloudAreas.Apart.{Apart}
use Rattle.checkpoints.specs.Picking.{onto, picked}

module _ {E X : Type 0} (f : Option E → Option X) (none : f None ≡ None) where
  -- a thing stands in a slot, from which it is picked
  pub record Stands (slots : List (Option E)) (x : X) : Type 0 where
    pub slot : ℕ
    pub entry : E
    pub here : get_or slots slot None ≡ Some entry
    pub picks : f (Some entry) ≡ Some x

  later : (o : Option E) (slots : List (Option E)) (x : X) → Stands slots x → Stands (o ∷ slots) x
  later o slots x s = record { slot = suc s.slot; entry = s.entry; here = s.here; picks = s.picks }

  of_first : (o : Option E) (slots : List (Option E)) (x : X) → f o ≡ Some x → Stands (o ∷ slots) x
  of_first None slots x is = absurd (let no : None ≡ Some x = sym none ∙ is in cc)
  of_first (Some e) slots x is = record { slot = 0; entry = e; here = refl; picks = is }

  pub from_picked : (slots : List (Option E)) (x : X) → Contains (picked f slots) x → Stands slots x
  from_picked [] x c = absurd (contains_nothing x c)
  from_picked (o ∷ slots) x c = by_first (from_picked slots x) (f o) refl
    where
      by_first : (Contains (picked f slots) x → Stands slots x) → (r : Option X) → f o ≡ r → Stands (o ∷ slots) x
      by_first rest None is = later o slots x (rest (subst (λ r. Contains (onto r (picked f slots)) x) is c))
      by_first rest (Some y) is = elim (contains_cases y (picked f slots) x (subst (λ r. Contains (onto r (picked f slots)) x) is c)) [
        | inl same ↦ of_first o slots x (is ∙ ap Some same)
        | inr more ↦ later o slots x (rest more)
      ]

  behind_onto : (r : Option X) (xs : List X) (x : X) → Contains xs x → Contains (onto r xs) x
  behind_onto None xs x c = c
  behind_onto (Some y) xs x c = contains_later y xs x c

  pub in_picked : (slots : List (Option E)) (s : ℕ) (e : E) (x : X) → get_or slots s None ≡ Some e → f (Some e) ≡ Some x → Contains (picked f slots) x
  in_picked [] s e x at is = absurd (let no : None ≡ Some e = at in cc)
  in_picked (o ∷ slots) zero e x at is = subst (λ r. Contains (onto r (picked f slots)) x) (sym (ap f at ∙ is)) (contains_here x (picked f slots))
  in_picked (o ∷ slots) (suc s) e x at is = behind_onto (f o) (picked f slots) x (in_picked slots s e x at is)

  -- no two slots give the same thing
  abbrev pub GiveApart : List (Option E) → Type 0
  GiveApart slots = (i j : ℕ) (a b : E) (x : X) → get_or slots i None ≡ Some a → get_or slots j None ≡ Some b → f (Some a) ≡ Some x → f (Some b) ≡ Some x → i ≡ j

  pub apart_picked : (slots : List (Option E)) → GiveApart slots → Apart (picked f slots)
  apart_picked [] apart = tt
  apart_picked (o ∷ slots) apart = by_first (apart_picked slots (λ i j a b x ia jb fa fb. let e : suc i ≡ suc j = apart (suc i) (suc j) a b x ia jb fa fb in omega (arith, e))) (f o) refl
    where
      by_entry : (o' : Option E) (x : X) → o ≡ o' → f o' ≡ Some x → Contains (picked f slots) x → ⊥
      by_entry None x is fx c = let no : None ≡ Some x = sym none ∙ fx in cc
      by_entry (Some e) x is fx c =
          let s = from_picked slots x c in
          let no : 0 ≡ suc s.slot = apart 0 (suc s.slot) e s.entry x is s.here fx s.picks in
          omega (arith, no)

      by_first : Apart (picked f slots) → (r : Option X) → f o ≡ r → Apart (onto (f o) (picked f slots))
      by_first rest None is = subst (λ r. Apart (onto r (picked f slots))) (sym is) rest
      by_first rest (Some x) is = subst (λ r. Apart (onto r (picked f slots))) (sym is) (by_entry o x refl is, rest)

  -- what is said of each thing that is picked is picked
  pub map_picked : {Y : Type 0} (g : X → Y) (slots : List (Option E)) → map g (picked f slots) ≡ picked (λ o. option_map g (f o)) slots
  map_picked g [] = refl
  map_picked g (o ∷ slots) = map_onto g (f o) (picked f slots) ∙ ap (onto (option_map g (f o))) (map_picked g slots)
    where
      map_onto : {Y : Type 0} (g : X → Y) (r : Option X) (xs : List X) → map g (onto r xs) ≡ onto (option_map g r) (map g xs)
      map_onto g None xs = refl
      map_onto g (Some x) xs = refl

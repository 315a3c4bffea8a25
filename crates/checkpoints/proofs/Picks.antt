-- What is picked from slots, slot by slot.
use Rattle.std.proofs.Common.{◌≡◌, ℕ, ◌+◌, ◌<◌, ◌≤◌, List, [], ◌∷◌, ◌++◌, length, take, drop, Option, Some, None, get_or, refl, sym, ap, ◌∙◌, append-nil, add-one, drop-cons}
use Rattle.std.proofs.lemmas.List.{take_more, drop_all}
use Rattle.checkpoints.specs.Picking.{onto, picked, IsPicked}

onto-append : {X : Type 0} (o : Option X) (xs ys : List X) → onto o (xs ++ ys) ≡ onto o xs ++ ys
onto-append None xs ys = refl
onto-append (Some x) xs ys = refl

module _ {S X : Type 0} (f : S → Option X) where
  pub picked-append : (xs ys : List S) → picked f (xs ++ ys) ≡ picked f xs ++ picked f ys
  picked-append [] ys = refl
  picked-append (s ∷ xs) ys = ap (onto (f s)) (picked-append xs ys) ∙ onto-append (f s) (picked f xs) (picked f ys)

  here : (slots : List S) (s : ℕ) (d : S) → s < length slots → picked f (drop s slots) ≡ onto (f (get_or slots s d)) (picked f (drop (s + 1) slots))
  here slots s d l = ap (picked f) (drop-cons slots s d l) ∙ ap (λ n. onto (f (get_or slots s d)) (picked f (drop n slots))) (sym (add-one s))

  up_to : (slots : List S) (s : ℕ) (d : S) → s < length slots → picked f (take (s + 1) slots) ≡ picked f (take s slots) ++ onto (f (get_or slots s d)) []
  up_to slots s d l = ap (picked f) (take_more slots s d l) ∙ picked-append (take s slots) (get_or slots s d ∷ [])

  -- Nothing is picked between two slots.
  pub record Passed (slots : List S) (from s : ℕ) : Type 0 where
    pub rest : picked f (drop from slots) ≡ picked f (drop s slots)
    pub before : picked f (take s slots) ≡ picked f (take from slots)

  module _ (slots : List S) (from s : ℕ) (d : S) (p : Passed slots from s) (l : s < length slots) where
    pub passes : f (get_or slots s d) ≡ None → Passed slots from (s + 1)
    passes none = record {
      rest = p.rest ∙ here slots s d l ∙ ap (λ o. onto o (picked f (drop (s + 1) slots))) none;
      before = up_to slots s d l ∙ ap (λ o. picked f (take s slots) ++ onto o []) none ∙ append-nil (picked f (take s slots)) ∙ p.before;
    }

    pub finds : (x : X) → f (get_or slots s d) ≡ Some x → IsPicked f slots from x (s + 1)
    finds x is = record {
      rest = p.rest ∙ here slots s d l ∙ ap (λ o. onto o (picked f (drop (s + 1) slots))) is;
      before = up_to slots s d l ∙ ap (λ o. picked f (take s slots) ++ onto o []) is ∙ ap (λ xs. xs ++ x ∷ []) p.before;
    }

  pub none_left : (slots : List S) (from s : ℕ) → Passed slots from s → length slots ≤ s → picked f (drop from slots) ≡ []
  none_left slots from s p l = p.rest ∙ ap (picked f) (drop_all s slots l)

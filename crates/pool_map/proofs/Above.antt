-- The least greater key of the slots is that of the finite map.
use Rattle.std.proofs.Common.{◌≡◌, ◌<◌, length, subst, ℕ, suc, true, List, [], ◌∷◌, get_or, refl, sym, ap, ◌∙◌, Some, None, Option, true≢false, inl, inr}
use Rattle.std.specs.Prelude.{is_some}
use Rattle.std.proofs.lemmas.Bool.{cases_Bool, cases_lt, cond-false}
use Rattle.std.proofs.lemmas.List.{get_or_past}
use Rattle.std.specs.declared.cmp.Ordering.{Ordering}
use Rattle.std.specs.declared.cmp.Ordering.TheVariants.{Less, Equal, Greater}
use Rattle.std.specs.Ordering.{eq_by_cmp}
use Rattle.std.specs.Cmp.{IsTotalOrder, tied_back, tied_itself}
use Rattle.std.specs.FinMap.{find, from_entries, get, get-from_entries, IsAntisymmetric}
use Rattle.slot_pool.specs.declared.Content.{Content}
use Rattle.slot_pool.specs.declared.Content.TheVariants.{Empty, Held}
use Rattle.pool_map.specs.declared.KeyedValue.{KeyedValue}
use Rattle.pool_map.specs.Table.{pairs, contents, StandsOnce, IsListing, IsLeastAbove, HasNoneAbove}
use Rattle.pool_map.specs.Index as slots
use Rattle.slot_pool.specs.Pool.{PoolContents, IsHeld, content}
use Rattle.pool_map.proofs.Pairs.{ties, ties-held, find-some, none-ties, is_eq-from, Equal-from}

some-from : {A : Type 0} (o : Option A) → (o ≡ None → ⊥) → is_some o ≡ true
some-from None n = absurd (n refl)
some-from (Some x) n = refl

pub value-from : {A : Type 0} (o : Option A) → is_some o ≡ true → (x : A) × (o ≡ Some x)
value-from None s = absurd (true≢false (sym s))
value-from (Some x) s = (x, refl)

module _ {K W : Type 0} (R : K → K → Ordering) (total : IsTotalOrder R) (exact : IsAntisymmetric R) where
  -- what is found stands in a slot
  find-held : (q : K) (cells : List (Content (KeyedValue K W))) (x : ℕ × W) → find R q (pairs cells) ≡ Some x → (s a : ℕ) × (e : KeyedValue K W) × (get_or cells s Empty ≡ Held a e) × (R q e.key ≡ Equal)
  find-held q [] x is = absurd (let no : None ≡ Some x = is in cc)
  find-held q (Empty ∷ cells) x is = let h = find-held q cells x is in (suc h.0, h.1, h.2, h.3, h.4)
  find-held q (Held a e ∷ cells) x is =
      elim (cases_Bool (eq_by_cmp R q e.key)) [
        | inl t ↦ (0, a, e, refl, Equal-from _ t)
        | inr n ↦ let h = find-held q cells x (sym (cond-false (eq_by_cmp R q e.key) (Some (a, e.value)) (find R q (pairs cells)) n) ∙ is) in (suc h.0, h.1, h.2, h.3, h.4)
      ]

  -- a key of the map stands in a slot
  pub key-held : (cells : List (Content (KeyedValue K W))) (k : K) → is_some (get (from_entries {R = R} (pairs cells)) k) ≡ true → (s a : ℕ) × (e : KeyedValue K W) × (get_or cells s Empty ≡ Held a e) × (k ≡ e.key)
  key-held cells k some =
      let v = value-from _ some in
      let h = find-held k cells v.0 (sym (get-from_entries total (pairs cells) k) ∙ v.1) in
      (h.0, h.1, h.2, h.3, exact k h.2.key h.4)

  -- a key that stands in a slot is one of the map
  pub held-key : (cells : List (Content (KeyedValue K W))) (s a : ℕ) (e : KeyedValue K W) → get_or cells s Empty ≡ Held a e → is_some (get (from_entries {R = R} (pairs cells)) e.key) ≡ true
  held-key cells s a e at = some-from _ (λ none.
      let no = none-ties R e.key cells (sym (get-from_entries total (pairs cells) e.key) ∙ none) s in
      true≢false (sym (ap (ties R e.key) at ∙ is_eq-from _ (tied_itself total e.key)) ∙ no))

  pub least-by-map : (cells : List (Content (KeyedValue K W))) (key answer : K) → slots.IsLeastAbove {W = W} R cells key answer → IsLeastAbove (from_entries {R = R} (pairs cells)) key answer
  least-by-map cells key answer h = record {
    present = ap (λ k. is_some (get (from_entries {R = R} (pairs cells)) k)) h.is_key ∙ held-key cells h.slot h.account h.entry h.stands;
    above = h.above;
    least = λ k some less greater.
        let x = key-held cells k some in
        elim (h.least x.0 x.1 x.2 x.3 (ap (R key) (sym x.4) ∙ less)) [
          | inl l ↦ let no : Less ≡ Greater = sym l ∙ ap (R answer) (sym x.4) ∙ greater in cc
          | inr e ↦ let no : Equal ≡ Greater = sym e ∙ ap (R answer) (sym x.4) ∙ greater in cc
        ];
  }

  pub none-by-map : (cells : List (Content (KeyedValue K W))) (key : K) → slots.HasNoneAbove {W = W} R cells key → HasNoneAbove (from_entries {R = R} (pairs cells)) key
  none-by-map cells key h k some less =
      let x = key-held cells k some in
      h x.0 x.1 x.2 x.3 (ap (R key) (sym x.4) ∙ less)

  -- where no key stands in two slots, the slots list the map
  pub listing : (p : PoolContents (KeyedValue K W)) → StandsOnce R p → IsListing R p
  listing p once = record {
    stands = λ k x got.
        let h = find-held k p.slots x (sym (get-from_entries total (pairs p.slots) k) ∙ got) in
        let same : k ≡ h.2.key = exact k h.2.key h.4 in
        let two : Some x ≡ Some (h.1, h.2.value) = sym got ∙ ap (get (contents R p)) same ∙ listed h.0 h.1 h.2 h.3 in
        let value : (h.1, h.2.value) ≡ x = cc in
        let write : K → ℕ × W → Content (KeyedValue K W) = λ key y. Held y.0 (record { key = key; value = y.1 }) in
        (h.0, within h.0 h.1 h.2 h.3, h.3 ∙ ap (write h.2.key) value ∙ ap (λ key. write key x) (sym same));
    listed = listed;
    once = once;
  }
    where
      within : (s a : ℕ) (e : KeyedValue K W) → content p s ≡ Held a e → s < length p.slots
      within s a e at = elim (cases_lt s (length p.slots)) [ inl l ↦ l | inr g ↦ absurd (subst IsHeld (get_or_past p.slots s Empty g) (subst IsHeld (sym at) tt)) ]

      listed : (s a : ℕ) (e : KeyedValue K W) → content p s ≡ Held a e → get (contents R p) e.key ≡ Some (a, e.value)
      listed s a e at =
          get-from_entries total (pairs p.slots) e.key
          ∙ find-some R e.key p.slots s a e (within s a e at) at (is_eq-from _ (tied_itself total e.key)) (λ t tie.
          let h = ties-held R e.key (content p t) tie in
          once t s h.0 a h.1 e h.2 at (tied_back total e.key h.1.key h.3))

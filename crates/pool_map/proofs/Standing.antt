-- Where a key's pair stands.
use Rattle.std.proofs.Common.{◌≡◌, ℕ, List, get_or, refl, sym, ap, ◌∙◌, Option, Some, None}
use Rattle.std.specs.Prelude.{is_some, option_map, IfSome, IfNone}
use Rattle.std.specs.declared.cmp.Ordering.{Ordering}
use Rattle.std.specs.Cmp.{IsTotalOrder, tied_itself}
use Rattle.std.specs.FinMap.{from_entries, get, IsAntisymmetric}
use Rattle.slot_pool.specs.declared.Content.{Content}
use Rattle.slot_pool.specs.declared.Content.TheVariants.{Empty, Held}
use Rattle.slot_pool.specs.Pool.{PoolContents, content, value_of, IsHeld}
use Rattle.pool_map.specs.declared.KeyedValue.{KeyedValue}
use Rattle.pool_map.specs.Table.{pairs, pair_of, StandsAt}
use Rattle.pool_map.specs.Chains.{IsHashed, HasKey, LacksKey}
use Rattle.pool_map.proofs.Order.{held-parts}
use Rattle.pool_map.proofs.Walks.{get-some, at-none}

some-mapped : {X Y : Type 0} (f : X → Y) (o : Option X) → is_some (option_map f o) ≡ is_some o
some-mapped f None = refl
some-mapped f (Some x) = refl

module _ {K W : Type 0} (R : K → K → Ordering) (total : IsTotalOrder R) (exact : IsAntisymmetric R) (word : K → ℕ) (cells : List (Content (KeyedValue K W))) (heads next : List ℕ) (hashed : IsHashed R word cells heads next) (key : K) where
  value : (n : ℕ) (here : HasKey R cells key n) → Some here.entry.value ≡ option_map (λ (p : ℕ × W). p.1) (get (from_entries {R = R} (pairs cells)) key)
  value n here = get-some R total exact word cells heads next hashed key n here.entry here (ap value_of here.holds)

  -- the slot that a search answers has the key with its value
  pub slot-answer : (o : Option ℕ) → IfSome o (HasKey R cells key) → IfSome o (λ n. pair_of (get_or cells n Empty) ≡ option_map (λ v. (key, v)) (option_map (λ (p : ℕ × W). p.1) (get (from_entries {R = R} (pairs cells)) key)))
  slot-answer None found = tt
  slot-answer (Some n) found =
      ap pair_of found.holds
      ∙ ap (λ k. Some (k, found.entry.value)) (exact found.entry.key key found.ties)
      ∙ ap (option_map (λ (v : W). (key, v))) (value n found)

  -- it answers one where the key is present
  pub slot-present : (o : Option ℕ) → IfSome o (HasKey R cells key) → IfNone o (LacksKey R cells key) → is_some o ≡ is_some (get (from_entries {R = R} (pairs cells)) key)
  slot-present None found lacks = ap is_some (sym (at-none R total exact word cells key lacks))
  slot-present (Some n) found lacks = ap is_some (value n found) ∙ some-mapped (λ (p : ℕ × W). p.1) (get (from_entries {R = R} (pairs cells)) key)

-- a slot that shows a key holds it
parts : {K W : Type 0} (c : Content (KeyedValue K W)) (k : K) (w : W) → pair_of c ≡ Some (k, w) → (a : ℕ) × (e : KeyedValue K W) × (c ≡ Held a e) × (e.key ≡ k)
parts Empty k w is = absurd (let no : None ≡ Some (k, w) = is in cc)
parts {K} {W} (Held a e) k w is =
    let two : ◌≡◌ {A = Option (K × W)} (Some (e.key, e.value)) (Some (k, w)) = is in
    let same : ◌≡◌ {A = K × W} (e.key, e.value) (k, w) = cc in
    (a, e, refl, ap (λ (p : K × W). p.0) same)

module _ {K W : Type 0} (R : K → K → Ordering) (total : IsTotalOrder R) (p : PoolContents (KeyedValue K W)) (slot : ℕ) where
  -- a slot that holds a pair holds one of the pair's key
  pub here-held : IsHeld (content p slot) → (key : K) × HasKey R p.slots key slot
  here-held is =
      let h = held-parts (content p slot) is in
      (h.1.key, record { account = h.0; entry = h.1; holds = h.2; ties = tied_itself total h.1.key })

  -- a slot at which a key stands holds a pair of it
  pub here-at : (key : K) → StandsAt p key slot → HasKey R p.slots key slot
  here-at key stands =
      let h = parts (content p slot) key stands.0 stands.1 in
      record { account = h.0; entry = h.1; holds = h.2; ties = ap (λ k. R k key) h.3 ∙ tied_itself total key }

  -- a slot that holds a pair of a key has the key
  pub stands : IsAntisymmetric R → (key : K) → HasKey R p.slots key slot → StandsAt p key slot
  stands exact key here = (here.entry.value, ap pair_of here.holds ∙ ap (λ (k : K). Some (k, here.entry.value)) (exact here.entry.key key here.ties))

  -- a pair that is read in a slot is held there under its key
  pub key-read : (e : KeyedValue K W) → value_of (content p slot) ≡ Some e → HasKey R p.slots e.key slot
  key-read e read = from (content p slot) refl read
    where
      from : (c : Content (KeyedValue K W)) → content p slot ≡ c → value_of c ≡ Some e → HasKey R p.slots e.key slot
      from Empty at is = absurd (let no : None ≡ Some e = is in cc)
      from (Held a f) at is =
          let two : Some f ≡ Some e = is in
          let same : f ≡ e = cc in
          record { account = a; entry = f; holds = at; ties = ap (λ (x : KeyedValue K W). R x.key e.key) same ∙ tied_itself total e.key }

-- A table as a finite map, and where its pairs stand.
use Rattle.std.specs.Prelude.{◌≡◌, ◌≢◌, ℕ, Bool, true, false, ◌<◌, ◌==◌, List, [], ◌∷◌, length, Option, Some, None, option_map, count_by, IsSome}
use Rattle.std.specs.declared.cmp.Ordering.{Ordering}
use Rattle.std.specs.declared.cmp.Ordering.TheVariants.{Less, Equal, Greater}
use Rattle.std.specs.FinMap.{FinMap, from_entries, get, insert, entries}
use Rattle.slot_pool.specs.declared.Content.{Content}
use Rattle.slot_pool.specs.declared.Content.TheVariants.{Empty, Held}
use Rattle.slot_pool.specs.Pool.{PoolContents, content, with_content}
use Rattle.pool_map.specs.declared.KeyedValue.{KeyedValue}

module _ {K W : Type 0} where
  -- each key with its account and its value, by slot
  abbrev pub pairs : List (Content (KeyedValue K W)) → List (K × (ℕ × W))
  pairs [] = []
  pairs (Empty ∷ rest) = pairs rest
  pairs (Held account entry ∷ rest) = (entry.key, (account, entry.value)) ∷ pairs rest

  -- the finite map from each key to its account and its value
  abbrev pub contents : (cmp : K → K → Ordering) → PoolContents (KeyedValue K W) → FinMap cmp (ℕ × W)
  contents cmp p = from_entries (pairs p.slots)

  -- the account and the value of a key
  abbrev pub at_key : (cmp : K → K → Ordering) → PoolContents (KeyedValue K W) → K → Option (ℕ × W)
  at_key cmp p key = get (contents cmp p) key

  abbrev pub value_at : (cmp : K → K → Ordering) → PoolContents (KeyedValue K W) → K → Option W
  value_at cmp p key = option_map (λ pair. pair.1) (at_key cmp p key)

  -- how many keys of a map are charged to an account
  abbrev pub charged : {cmp : K → K → Ordering} → FinMap cmp (ℕ × W) → ℕ → ℕ
  charged m account = count_by (λ e. e.1.0 == account) (entries m)

  -- the key has a value
  abbrev pub IsPresent : (cmp : K → K → Ordering) → PoolContents (KeyedValue K W) → K → Type 0
  IsPresent cmp p key = IsSome (at_key cmp p key)

  abbrev pub rewritten : {cmp : K → K → Ordering} → FinMap cmp (ℕ × W) → K → W → Option (ℕ × W) → FinMap cmp (ℕ × W)
  rewritten m key value None = m
  rewritten m key value (Some old) = insert m key (old.0, value)

  -- the map with another value at a key that it has, under the same account
  abbrev pub with_value_at : {cmp : K → K → Ordering} → FinMap cmp (ℕ × W) → K → W → FinMap cmp (ℕ × W)
  with_value_at m key value = rewritten m key value (get m key)

  -- the answer is the least key of the map that is greater than this one
  pub record IsLeastAbove {cmp : K → K → Ordering} (m : FinMap cmp (ℕ × W)) (key answer : K) : Type 0 where
    pub present : IsSome (get m answer)
    pub above : cmp key answer ≡ Less
    pub least : (k : K) → IsSome (get m k) → cmp key k ≡ Less → cmp answer k ≢ Greater

  -- no key of the map is greater
  abbrev pub HasNoneAbove : {cmp : K → K → Ordering} → FinMap cmp (ℕ × W) → K → Type 0
  HasNoneAbove {cmp} m key = (k : K) → IsSome (get m k) → cmp key k ≢ Less

  abbrev pub is_held : Content (KeyedValue K W) → Bool
  is_held Empty = false
  is_held (Held account entry) = true

  -- how many slots hold a pair
  abbrev pub held_count : PoolContents (KeyedValue K W) → ℕ
  held_count p = count_by is_held p.slots

  -- the key and the value in a slot
  abbrev pub pair_of : Content (KeyedValue K W) → Option (K × W)
  pair_of Empty = None
  pair_of (Held account entry) = Some (entry.key, entry.value)

  -- the slot holds the key, with some value
  abbrev pub StandsAt : PoolContents (KeyedValue K W) → K → ℕ → Type 0
  StandsAt p key slot = (value : W) × (pair_of (content p slot) ≡ Some (key, value))

  -- no key stands in two slots
  abbrev pub StandsOnce : (cmp : K → K → Ordering) → PoolContents (KeyedValue K W) → Type 0
  StandsOnce cmp p =
      (i j : ℕ) (a b : ℕ) (e f : KeyedValue K W) → content p i ≡ Held a e → content p j ≡ Held b f
      → cmp e.key f.key ≡ Equal → i ≡ j

  -- each pair of the map stands in just one slot, and no slot has another
  pub record IsListing (cmp : K → K → Ordering) (p : PoolContents (KeyedValue K W)) : Type 0 where
    pub stands : (k : K) (x : ℕ × W) → get (contents cmp p) k ≡ Some x → (s : ℕ) × (s < length p.slots) × (content p s ≡ Held x.0 (record { key = k; value = x.1 }))
    pub listed : (s a : ℕ) (e : KeyedValue K W) → content p s ≡ Held a e
        → get (contents cmp p) e.key ≡ Some (a, e.value)
    pub once : StandsOnce cmp p

  -- an empty slot got this content, and every other slot is as it was
  pub record Fills (old new : PoolContents (KeyedValue K W)) (filled : Content (KeyedValue K W)) : Type 0 where
    pub slot : ℕ
    pub in_range : slot < length old.slots
    pub was_empty : content old slot ≡ Empty
    pub now_is : new ≡ with_content old slot filled

  -- the slots of the key are emptied, and every other slot is as it was
  pub record Drops (cmp : K → K → Ordering) (old new : PoolContents (KeyedValue K W)) (key : K) : Type 0 where
    pub slots : (s : ℕ) → ((a : ℕ) (e : KeyedValue K W) → content old s ≡ Held a e → cmp key e.key ≡ Equal → content new s ≡ Empty) × (((a : ℕ) (e : KeyedValue K W) → content old s ≡ Held a e → cmp key e.key ≢ Equal) → content new s ≡ content old s)
    pub length_kept : length new.slots ≡ length old.slots
    pub limits : new.limits ≡ old.limits

  -- the slot of the key has another value under the same account, and every other slot is as it was
  pub record Rewrites (cmp : K → K → Ordering) (old new : PoolContents (KeyedValue K W)) (key : K)
      (value : W) : Type 0 where
    pub slot : ℕ
    pub account : ℕ
    pub entry : KeyedValue K W
    pub was : content old slot ≡ Held account entry
    pub ties : cmp entry.key key ≡ Equal
    pub now_is : new ≡ with_content old slot (Held account (record { key = entry.key; value = value }))

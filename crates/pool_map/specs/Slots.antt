-- How the slots of a table list the finite map of an index over it.
use Rattle.std.specs.Prelude.{◌≡◌, ℕ, ◌<◌, List, [], ◌∷◌, length, map, Option, Some, None, option_map, is_some, IfSome, slice_index_or, slice_set, replicate}
use Rattle.std.proofs.Common.{refl, sym, ap, ◌∙◌, subst, zero, suc, length-set}
use Rattle.std.proofs.lemmas.List.{map-set}
use Rattle.std.specs.declared.cmp.Ordering.{Ordering}
use Rattle.std.specs.Cmp.{IsTotalOrder, tied_itself}
use Rattle.std.specs.FinMap.{FinMap, from_entries, empty, get, IsAntisymmetric}
use Rattle.slot_pool.specs.declared.Content.{Content}
use Rattle.slot_pool.specs.declared.Content.TheVariants.{Empty, Held}
use Rattle.slot_pool.specs.Pool.{PoolContents, content}
use Rattle.pool_map.specs.declared.KeyedValue.{KeyedValue}
use Rattle.pool_map.specs.Table.{contents, pairs, pair_of, value_at, IsListing, Rewrites}
use Rattle.pool_map.specs.Shown.{shown, through, get-shown}

module _ {K V : Type 0} where
  -- what stands in a slot
  abbrev pub slot_of : List (Option (K × V)) → ℕ → Option (K × V)
  slot_of slots slot = slice_index_or slots slot None

  -- each key of the map stands with its value in just one slot, and no slot has anything else
  pub record IsListed {R : K → K → Ordering} (m : FinMap R V) (slots : List (Option (K × V))) : Type 0 where
    pub stands : (k : K) (v : V) → get m k ≡ Some v → (s : ℕ) × (s < length slots) × (slot_of slots s ≡ Some (k, v))
    pub listed : (s : ℕ) (k : K) (v : V) → slot_of slots s ≡ Some (k, v) → get m k ≡ Some v
    pub once : (i j : ℕ) (k : K) (v w : V) → slot_of slots i ≡ Some (k, v) → slot_of slots j ≡ Some (k, w) → i ≡ j

  -- the slot of the key has another value, and every other slot is as it was
  pub record IsRewritten (old new : List (Option (K × V))) (key : K) (value : V) : Type 0 where
    pub slot : ℕ
    pub before : V
    pub was : slot_of old slot ≡ Some (key, before)
    pub now_is : new ≡ slice_set old slot (Some (key, value))

  pub length-rewritten : (old new : List (Option (K × V))) (key : K) (value : V) → IsRewritten old new key value → length new ≡ length old
  length-rewritten old new key value is = ap length is.now_is ∙ length-set old is.slot (Some (key, value))

mapped : {X V : Type 0} (g : X → V) (o : Option X) (v : V) → option_map g o ≡ Some v → (x : X) × (o ≡ Some x) × (g x ≡ v)
mapped g None v is = absurd (let no : None ≡ Some v = is in cc)
mapped g (Some x) v is = let two : Some (g x) ≡ Some v = is in (x, refl, cc)

-- a key with a value
abbrev pub keyed : {K V : Type 0} → K → V → K × V
keyed key value = (key, value)

some-mapped : {X V : Type 0} (g : X → V) (o : Option X) → is_some (option_map g o) ≡ is_some o
some-mapped g None = refl
some-mapped g (Some x) = refl

module _ {K W V : Type 0} (f : W → V) where
  abbrev pub show : Content (KeyedValue K W) → Option (K × V)
  show c = option_map (λ e. (e.0, f e.1)) (pair_of c)

  -- what each slot of a table has, with each value seen through a function
  abbrev pub shown_slots : List (Content (KeyedValue K W)) → List (Option (K × V))
  shown_slots cells = map show cells

  pub length-shown_slots : (cells : List (Content (KeyedValue K W))) → length (shown_slots cells) ≡ length cells
  length-shown_slots [] = refl
  length-shown_slots (c ∷ cells) = ap suc (length-shown_slots cells)

  pub at-shown_slots : (cells : List (Content (KeyedValue K W))) (s : ℕ) → slot_of (shown_slots cells) s ≡ show (slice_index_or cells s Empty)
  at-shown_slots [] s = refl
  at-shown_slots (c ∷ cells) zero = refl
  at-shown_slots (c ∷ cells) (suc s) = at-shown_slots cells s

  -- a slot that shows a key holds it
  held : (c : Content (KeyedValue K W)) (k : K) (v : V) → show c ≡ Some (k, v) → (a : ℕ) × (e : KeyedValue K W) × (c ≡ Held a e) × (e.key ≡ k) × (f e.value ≡ v)
  held Empty k v is = absurd (let no : None ≡ Some (k, v) = is in cc)
  held (Held a e) k v is =
      let two : Some (e.key, f e.value) ≡ Some (k, v) = is in
      let same : ◌≡◌ {A = K × V} (e.key, f e.value) (k, v) = cc in
      (a, e, refl, ap (λ p. p.0) same, ap (λ p. p.1) same)

  pub listed-shown : {R : K → K → Ordering} → IsTotalOrder R → (p : PoolContents (KeyedValue K W)) → IsListing R p → IsListed (shown {R = R} (λ (x : ℕ × W). f x.1) (contents R p)) (shown_slots p.slots)
  listed-shown {R} total p is = record {
    stands = λ k v got.
        let x = mapped (λ (y : ℕ × W). f y.1) (get (contents R p) k) v (sym (get-shown (λ (y : ℕ × W). f y.1) (contents R p) k) ∙ got) in
        let s = is.stands k x.0 x.1 in
        (s.0, subst (λ n. s.0 < n) (sym (length-shown_slots p.slots)) s.1, at-shown_slots p.slots s.0 ∙ ap show s.2 ∙ ap (λ y. Some (k, y)) x.2);
    listed = λ s k v at.
        let h = held (content p s) k v (sym (at-shown_slots p.slots s) ∙ at) in
        get-shown (λ (y : ℕ × W). f y.1) (contents R p) k
        ∙ ap (option_map (λ (y : ℕ × W). f y.1)) (ap (get (contents R p)) (sym h.3) ∙ is.listed s h.0 h.1 h.2)
        ∙ ap Some h.4;
    once = λ i j k v w at_i at_j.
        let x = held (content p i) k v (sym (at-shown_slots p.slots i) ∙ at_i) in
        let y = held (content p j) k w (sym (at-shown_slots p.slots j) ∙ at_j) in
        is.once i j x.0 y.0 x.1 y.1 x.2 y.2 (ap (R x.1.key) (y.3 ∙ sym x.3) ∙ tied_itself total x.1.key);
  }

  -- another value at a key of the table is seen at the key's slot
  pub rewritten-shown : {R : K → K → Ordering} → IsAntisymmetric R → (p q : PoolContents (KeyedValue K W)) (key : K) (value : W) → Rewrites R p q key value → IsRewritten (shown_slots p.slots) (shown_slots q.slots) key (f value)
  rewritten-shown exact p q key value is =
      let same = exact is.entry.key key is.ties in
      record {
        slot = is.slot;
        before = f is.entry.value;
        was = at-shown_slots p.slots is.slot ∙ ap show is.was ∙ ap (λ k. Some (k, f is.entry.value)) same;
        now_is =
            ap (λ (r : PoolContents (KeyedValue K W)). shown_slots r.slots) is.now_is
            ∙ map-set show p.slots is.slot _
            ∙ ap (λ k. slice_set (shown_slots p.slots) is.slot (Some (k, f value))) same;
      }

  twice : (key : K) (o : Option (ℕ × W)) → option_map (through f) (option_map (keyed key) (option_map (λ (x : ℕ × W). x.1) o)) ≡ option_map (keyed key) (option_map (λ (x : ℕ × W). f x.1) o)
  twice key None = refl
  twice key (Some x) = refl

  -- the slot of a key shows it
  pub slot-shown : (R : K → K → Ordering) (p : PoolContents (KeyedValue K W)) (key : K) (answer : Option ℕ) → IfSome answer (λ s. pair_of (content p s) ≡ option_map (keyed key) (value_at R p key)) → IfSome answer (λ s. slot_of (shown_slots p.slots) s ≡ option_map (keyed key) (get (shown {R = R} (λ (x : ℕ × W). f x.1) (contents R p)) key))
  slot-shown R p key None here = tt
  slot-shown R p key (Some s) here =
      at-shown_slots p.slots s
      ∙ ap (option_map (through f)) here
      ∙ twice key (get (contents R p) key)
      ∙ ap (option_map (keyed key)) (sym (get-shown (λ (x : ℕ × W). f x.1) (contents R p) key))

  -- a key of the table is one of the map
  pub present-shown : (R : K → K → Ordering) (p : PoolContents (KeyedValue K W)) (key : K) → is_some (get (shown {R = R} (λ (x : ℕ × W). f x.1) (contents R p)) key) ≡ is_some (get (contents R p) key)
  present-shown R p key = ap is_some (get-shown (λ (x : ℕ × W). f x.1) (contents R p) key) ∙ some-mapped (λ (x : ℕ × W). f x.1) (get (contents R p) key)

-- another value at a key is seen through a function
pub rewritten-through : {K V U : Type 0} (g : V → U) (old new : List (Option (K × V))) (key : K) (value : V) → IsRewritten old new key value → IsRewritten (map (option_map (through g)) old) (map (option_map (through g)) new) key (g value)
rewritten-through {K} {V} {U} g old new key value is = record {
  slot = is.slot;
  before = g is.before;
  was = at-mapped old is.slot ∙ ap (option_map (through {K = K} g)) is.was;
  now_is = ap (map (option_map (through {K = K} g))) is.now_is ∙ map-set (option_map (through {K = K} g)) old is.slot _;
}
  where
    at-mapped : (slots : List (Option (K × V))) (s : ℕ) → slot_of (map (option_map (through g)) slots) s ≡ option_map (through g) (slot_of slots s)
    at-mapped [] s = refl
    at-mapped (x ∷ slots) zero = refl
    at-mapped (x ∷ slots) (suc s) = at-mapped slots s

no-pairs : (K W : Type 0) (n : ℕ) → pairs {K = K} {W = W} (replicate n Empty) ≡ []
no-pairs K W zero = refl
no-pairs K W (suc n) = no-pairs K W n

-- a table of empty slots is the empty map
pub contents-fresh : {K W : Type 0} (R : K → K → Ordering) (p : PoolContents (KeyedValue K W)) (n : ℕ) → p.slots ≡ replicate n Empty → contents R p ≡ empty
contents-fresh {K} {W} R p n fresh = ap (λ cells. from_entries {R = R} (pairs cells)) fresh ∙ ap from_entries (no-pairs K W n)

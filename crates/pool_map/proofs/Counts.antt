-- A table's pairs and the keys of its finite map are as many, of each account and in all.
use Rattle.std.proofs.Common.{◌≡◌, ℕ, zero, suc, ◌+◌, cond, List, [], ◌∷◌, length, get_or, refl, sym, ap, ◌∙◌, arith, None, count_by, replicate}
use Rattle.std.specs.Prelude.{is_some, ◌==◌, ◌↔◌}
use Rattle.std.proofs.lemmas.List.Sums.{sum_by-cons}
use Rattle.std.proofs.lemmas.Bool.{false_from_ne_true}
use Rattle.std.specs.declared.cmp.Ordering.{Ordering}
use Rattle.std.specs.declared.cmp.Ordering.TheVariants.{Equal}
use Rattle.std.specs.Cmp.{IsTotalOrder}
use Rattle.std.specs.FinMap.{from_entries, get, insert, empty, entries, len, len-empty, len-entries, len-insert, get-from_entries}
use Rattle.slot_pool.specs.declared.Content.{Content}
use Rattle.slot_pool.specs.declared.Content.TheVariants.{Empty, Held}
use Rattle.slot_pool.specs.Pool.{PoolContents, is_of, uses, limit_of}
use Rattle.pool_map.specs.declared.KeyedValue.{KeyedValue}
use Rattle.pool_map.specs.Table.{pairs, contents, charged, is_held, StandsOnce}
use Rattle.pool_map.specs.MapSums.{sum_by-insert_new}
use Rattle.pool_map.proofs.Pairs.{ties-held, find-none}

pub no_length : {A : Type 0} (es : List A) → length es ≡ 0 → es ≡ []
no_length [] e = refl
no_length (x ∷ es) e = absurd (omega arith)

module _ {K W : Type 0} (R : K → K → Ordering) (total : IsTotalOrder R) where
  -- no key stands in two of these slots
  abbrev Apart : List (Content (KeyedValue K W)) → Type 0
  Apart cells = (i j a b : ℕ) (e f : KeyedValue K W) → get_or cells i Empty ≡ Held a e → get_or cells j Empty ≡ Held b f → R e.key f.key ≡ Equal → i ≡ j

  rest-apart : (c : Content (KeyedValue K W)) (cells : List (Content (KeyedValue K W))) → Apart (c ∷ cells) → Apart cells
  rest-apart c cells apart i j a b e f ie jf tie = let same : suc i ≡ suc j = apart (suc i) (suc j) a b e f ie jf tie in omega arith

  -- the first slot's key stands in no later one
  first-new : (a : ℕ) (e : KeyedValue K W) (cells : List (Content (KeyedValue K W))) → Apart (Held a e ∷ cells) → get (from_entries {R = R} (pairs cells)) e.key ≡ None
  first-new a e cells apart =
      get-from_entries total (pairs cells) e.key
      ∙ find-none R e.key cells (λ s. false_from_ne_true _ (λ t.
      let h = ties-held R e.key (get_or cells s Empty) t in
      let no : 0 ≡ suc s = apart 0 (suc s) a h.0 e h.1 refl h.2 h.3 in
      omega arith))

  nothing : entries (empty {X = ℕ × W} {R = R}) ≡ []
  nothing = no_length _ (sym (len-entries (empty {X = ℕ × W} {R = R})) ∙ len-empty R (ℕ × W))

  counted : (a : ℕ) (cells : List (Content (KeyedValue K W))) → Apart cells → count_by (λ (x : K × (ℕ × W)). x.1.0 == a) (entries (from_entries {R = R} (pairs cells))) ≡ count_by (is_of a) cells
  counted a [] apart = ap (count_by (λ (x : K × (ℕ × W)). x.1.0 == a)) nothing
  counted a (Empty ∷ cells) apart =
      let h = counted a cells (rest-apart Empty cells apart) in
      omega (arith, sum_by-cons (λ (c : Content (KeyedValue K W)). cond (is_of a c) 1 0) Empty cells)
  counted a (Held b e ∷ cells) apart =
      let h = counted a cells (rest-apart (Held b e) cells apart) in
      let put = sum_by-insert_new total (λ (x : K × (ℕ × W)). cond (x.1.0 == a) 1 0) (from_entries {R = R} (pairs cells)) e.key (b, e.value) (first-new b e cells apart) in
      omega (arith, sum_by-cons (λ (c : Content (KeyedValue K W)). cond (is_of a c) 1 0) (Held b e) cells)

  all : (cells : List (Content (KeyedValue K W))) → Apart cells → len (from_entries {R = R} (pairs cells)) ≡ count_by is_held cells
  all [] apart = len-empty R (ℕ × W)
  all (Empty ∷ cells) apart =
      let h = all cells (rest-apart Empty cells apart) in
      omega (arith, sum_by-cons (λ (c : Content (KeyedValue K W)). cond (is_held c) 1 0) Empty cells)
  all (Held b e ∷ cells) apart =
      let h = all cells (rest-apart (Held b e) cells apart) in
      let put = len-insert total (from_entries {R = R} (pairs cells)) e.key (b, e.value) in
      let new : len (insert (from_entries {R = R} (pairs cells)) e.key (b, e.value)) ≡ len (from_entries {R = R} (pairs cells)) + 1 = put ∙ ap (λ o. cond (is_some o) (len (from_entries {R = R} (pairs cells))) (len (from_entries {R = R} (pairs cells)) + 1)) (first-new b e cells apart) in
      omega (arith, sum_by-cons (λ (c : Content (KeyedValue K W)). cond (is_held c) 1 0) (Held b e) cells)

  pub charged-uses : (p : PoolContents (KeyedValue K W)) → StandsOnce R p → (a : ℕ) → charged (contents R p) a ≡ uses p a
  charged-uses p apart a = counted a p.slots (λ i j. apart i j)

  -- what the pool says of its use, said of the map
  pub by-map : (p : PoolContents (KeyedValue K W)) → StandsOnce R p → (a : ℕ) (E : Type 0) → E ↔ uses p a ≡ limit_of p a → E ↔ charged (contents R p) a ≡ limit_of p a
  by-map p apart a E both = ((λ e. charged-uses p apart a ∙ both.0 e), (λ full. both.1 (sym (charged-uses p apart a) ∙ full)))

  pub len-held : (p : PoolContents (KeyedValue K W)) → StandsOnce R p → len (contents R p) ≡ count_by is_held p.slots
  len-held p apart = all p.slots (λ i j. apart i j)

-- empty slots have no pair
pub pairs-replicate : (K W : Type 0) (n : ℕ) → pairs {K = K} {W = W} (replicate n Empty) ≡ []
pairs-replicate K W zero = refl
pairs-replicate K W (suc n) = pairs-replicate K W n

-- a table of empty slots is the empty map
pub contents-replicate : {K W : Type 0} (R : K → K → Ordering) (n : ℕ) → from_entries {X = ℕ × W} {R = R} (pairs (replicate n Empty)) ≡ empty
contents-replicate {K} {W} R n = ap from_entries (pairs-replicate K W n)

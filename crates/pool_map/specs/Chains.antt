-- How a hash table chains its slots. No public clause cites this module.
use Rattle.std.specs.Prelude.{◌≡◌, ◌≢◌, ℕ, Bool, true, false, ◌^◌, ◌<◌, ◌≤◌, ◌*◌, ◌/◌, eqb, List, [], ◌∷◌, length, slice_index_or, if◌then◌else◌}
use Rattle.std.specs.List.{list_any}
use Rattle.std.specs.declared.cmp.Ordering.{Ordering}
use Rattle.std.specs.declared.cmp.Ordering.TheVariants.{Equal}
use Rattle.slot_pool.specs.declared.Content.{Content}
use Rattle.slot_pool.specs.declared.Content.TheVariants.{Empty, Held}
use Rattle.pool_map.specs.declared.KeyedValue.{KeyedValue}

-- the slot is one of these
abbrev pub has : ℕ → List ℕ → Bool
has s slots = list_any (eqb s) slots

-- from h on, each slot names the next, and the last names none
abbrev pub IsSlotChain : List ℕ → ℕ → List ℕ → Type 0
IsSlotChain next h [] = length next ≤ h
IsSlotChain next h (s ∷ slots) = (h ≡ s) × (s < length next) × IsSlotChain next (slice_index_or next s 0) slots

-- no slot comes twice
abbrev pub IsOnceEach : List ℕ → Type 0
IsOnceEach [] = Unit {0}
IsOnceEach (s ∷ slots) = (has s slots ≡ false) × IsOnceEach slots

-- the bucket of a key, of so many that cut the words into equal ranges
abbrev pub bucket : {K : Type 0} → (K → ℕ) → ℕ → K → ℕ
bucket word buckets key = word key * buckets / 2 ^ 64

-- the slots without the first that is s
abbrev pub without : ℕ → List ℕ → List ℕ
without s [] = []
without s (x ∷ slots) = (if eqb s x then slots else x ∷ without s slots)

-- the chain from h on has the slot
pub record IsLinked (next : List ℕ) (h slot : ℕ) : Type 0 where
  pub slots : List ℕ
  pub path : IsSlotChain next h slots
  pub once : IsOnceEach slots
  pub linked : has slot slots ≡ true

-- the chain from old_h on is the chain from new_h on without the slot
abbrev pub UnlinksOwn : (old new : List ℕ) (old_h new_h slot : ℕ) → Type 0
UnlinksOwn old new old_h new_h slot = (xs : List ℕ) → IsSlotChain old old_h xs → IsOnceEach xs → has slot xs ≡ true → IsSlotChain new new_h (without slot xs)

-- a chain that shares no slot with that from h on is as it was
abbrev pub KeepsOtherChains : (old new : List ℕ) (h : ℕ) → Type 0
KeepsOtherChains old new h = (own xs : List ℕ) (g : ℕ) → IsSlotChain old h own → IsSlotChain old g xs → ((t : ℕ) → has t own ≡ true → has t xs ≡ false) → IsSlotChain new g xs

-- a search along a chain for the slot before this one
pub record IsSeek (next : List ℕ) (h slot at steps : ℕ) : Type 0 where
  pub left : List ℕ
  pub path : IsSlotChain next at (at ∷ left)
  pub ahead : has slot left ≡ true
  pub apart : at ≢ slot
  pub own : (xs : List ℕ) → IsSlotChain next h xs → has at xs ≡ true
  pub first : h ≢ slot
  pub short : length left ≤ steps

module _ {K W : Type 0} where
  -- the chain from h on has just the pairs of the bucket b
  pub record IsChain (word : K → ℕ) (buckets b : ℕ) (cells : List (Content (KeyedValue K W))) (next : List ℕ) (h : ℕ) : Type 0 where
    pub slots : List ℕ
    pub path : IsSlotChain next h slots
    pub once : IsOnceEach slots
    pub members : (s : ℕ) → has s slots ≡ true → (a : ℕ) × (e : KeyedValue K W) × (slice_index_or cells s Empty ≡ Held a e) × (bucket word buckets e.key ≡ b)
    pub complete : (s a : ℕ) (e : KeyedValue K W) → slice_index_or cells s Empty ≡ Held a e → bucket word buckets e.key ≡ b → has s slots ≡ true

  pub record IsHashed (cmp : K → K → Ordering) (word : K → ℕ) (cells : List (Content (KeyedValue K W))) (heads next : List ℕ) : Type 0 where
    pub buckets : 0 < length heads
    pub lengths : length next ≡ length cells
    pub small : length cells < 2 ^ 32
    pub chain : (b : ℕ) → b < length heads → IsChain word (length heads) b cells next (slice_index_or heads b 0)
    pub apart : (i j a b : ℕ) (e f : KeyedValue K W) → slice_index_or cells i Empty ≡ Held a e → slice_index_or cells j Empty ≡ Held b f → cmp e.key f.key ≡ Equal → i ≡ j

  -- the slot holds a pair of the key
  pub record HasKey (cmp : K → K → Ordering) (cells : List (Content (KeyedValue K W))) (key : K)
      (slot : ℕ) : Type 0 where
    pub account : ℕ
    pub entry : KeyedValue K W
    pub holds : slice_index_or cells slot Empty ≡ Held account entry
    pub ties : cmp entry.key key ≡ Equal

  -- no slot holds a pair of the key
  abbrev pub LacksKey : (cmp : K → K → Ordering) → List (Content (KeyedValue K W)) → K → Type 0
  LacksKey cmp cells key = (s a : ℕ) (e : KeyedValue K W) → slice_index_or cells s Empty ≡ Held a e
      → cmp e.key key ≢ Equal

  -- a walk along a chain: what is left, and what is left holds the key if any slot does
  pub record IsWalk (cmp : K → K → Ordering) (cells : List (Content (KeyedValue K W))) (next : List ℕ) (key : K) (at steps : ℕ) : Type 0 where
    pub left : List ℕ
    pub path : IsSlotChain next at left
    pub live : (s : ℕ) → has s left ≡ true → (a : ℕ) × (e : KeyedValue K W) × (slice_index_or cells s Empty ≡ Held a e)
    pub finds : (s a : ℕ) (e : KeyedValue K W) → slice_index_or cells s Empty ≡ Held a e → cmp e.key key ≡ Equal → has s left ≡ true
    pub short : length left ≤ steps

-- What is picked from the slots of a table, in their order, and batches of it.
use Rattle.std.specs.Prelude.{◌≡◌, ℕ, ◌==◌, List, [], ◌∷◌, ◌++◌, length, take, drop, Option, Some, None, MatchOption, if◌then◌else◌}
use Rattle.cloud_memory.specs.MessageFields.Fingerprints.{batch_limit}

-- a list with one thing more in front, where there is one
abbrev pub onto : {X : Type 0} → Option X → List X → List X
onto None xs = xs
onto (Some x) xs = x ∷ xs

-- what is picked from each slot, where there is anything
abbrev pub picked : {S X : Type 0} → (S → Option X) → List S → List X
picked f [] = []
picked f (s ∷ slots) = onto (f s) (picked f slots)

-- The next thing is picked, from a slot on, and the answer names the slot behind.
pub record IsPicked {S X : Type 0} (f : S → Option X) (slots : List S) (from : ℕ) (x : X) (behind : ℕ) : Type 0 where
  pub rest : picked f (drop from slots) ≡ x ∷ picked f (drop behind slots)
  pub before : picked f (take behind slots) ≡ picked f (take from slots) ++ x ∷ []

-- Nothing more is picked from the slot on, or else the next thing.
abbrev pub IsNextPicked : {S X : Type 0} → (S → Option X) → List S → ℕ → Option (X × ℕ) → Type 0
IsNextPicked f slots from found = MatchOption found (picked f (drop from slots) ≡ []) (λ x. IsPicked f slots from x.0 x.1)

-- a batch that has anything
abbrev pub opened : {X : Type 0} → List X → List (List X)
opened [] = []
opened (x ∷ xs) = (x ∷ xs) ∷ []

-- an open batch and then more, in batches of 256 of which the last may have fewer
abbrev pub batched : {X : Type 0} → List X → List X → List (List X)
batched some [] = opened some
batched some (x ∷ xs) = if length some == batch_limit then some ∷ batched (x ∷ []) xs else batched (some ++ x ∷ []) xs

-- in batches of 256 of which the last may have fewer
abbrev pub batches : {X : Type 0} → List X → List (List X)
batches xs = batched [] xs

-- a batch in front of others, where it has anything
abbrev pub with_batch : {X : Type 0} → List X → List (List X) → List (List X)
with_batch [] more = more
with_batch (x ∷ xs) more = (x ∷ xs) ∷ more

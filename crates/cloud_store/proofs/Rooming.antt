-- The chain that has room for a record.
use Rattle.std.proofs.Common.{◌≡◌, ◌⊎◌, inl, inr, ℕ, ◌+◌, ◌<◌, ◌≤◌, Bool, true, false, List, sym, ap, ◌∙◌}
use Rattle.std.proofs.lemmas.Bool.{cases_lt, lt-ltb, le-ltb}
use Rattle.std.specs.Prelude.{if◌then◌else◌}
use Rattle.checkpoints.specs.UserDedup.command.Command.{Command}
use Rattle.checkpoints.specs.CloudAreas.Standing.{Chain}
use Rattle.checkpoints.specs.Known.{checkpoint_in}
use Rattle.cloud_store.specs.declared.store.CloudStore.{CloudStore}
use Rattle.cloud_store.specs.Store.{FitsHalf, chain_with_room}

-- a test that came out both ways
pub both_ways : (b : Bool) → b ≡ true → b ≡ false → ⊥
both_ways b t f = let e : true ≡ false = sym t ∙ f in cc

-- where the record fits, the chain that is there
pub chain_there : (s : CloudStore) (list : List Command) (c : Chain) (len : ℕ) → FitsHalf s len → chain_with_room s list c len ≡ c
chain_there s list c len fits =
    ap (λ (b : Bool). if b then checkpoint_in s.header list c s.commands s.region s.memory else c)
    (le-ltb s.disk.journal.limit (s.disk.journal.current.gate + 1 + (len + 5)) fits)

-- where it doesn't, the checkpoint's
pub chain_next : (s : CloudStore) (list : List Command) (c : Chain) (len : ℕ) → (FitsHalf s len → ⊥) → chain_with_room s list c len ≡ checkpoint_in s.header list c s.commands s.region s.memory
chain_next s list c len not =
    ap (λ (b : Bool). if b then checkpoint_in s.header list c s.commands s.region s.memory else c)
    (lt-ltb s.disk.journal.limit (s.disk.journal.current.gate + 1 + (len + 5)) (by_order (cases_lt s.disk.journal.limit (s.disk.journal.current.gate + 1 + (len + 5)))))
  where
    by_order : (s.disk.journal.limit < s.disk.journal.current.gate + 1 + (len + 5)) ⊎ (s.disk.journal.current.gate + 1 + (len + 5) ≤ s.disk.journal.limit)
        → s.disk.journal.limit < s.disk.journal.current.gate + 1 + (len + 5)
    by_order (inl less) = less
    by_order (inr more) = absurd (not more)

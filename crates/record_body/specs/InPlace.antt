-- Items of a Kept in the bytes of a body.
use Rattle.std.specs.Prelude.{◌≡◌, ℕ, ◌+◌, ◌≤◌, Bool, true, false, List, [], ◌∷◌, length, drop, Result, Ok, Err, IsTrue}
use Rattle.message_fields.specs.Parts.{times}
use Rattle.record_body.specs.declared.body.KeptItem.{KeptItem}
use Rattle.record_body.specs.declared.body.FoundKept.{FoundKept}
use Rattle.record_body.specs.Spelling.{FitsKept}
use Rattle.record_body.specs.Reading.{item_at}

-- the items that a reading gives, or none where it fails
abbrev pub read_items : Result (List KeptItem × List ℕ) ℕ → List KeptItem
read_items (Ok x) = x.0
read_items (Err left) = []

-- the reading gives items
abbrev pub is_read : Result (List KeptItem × List ℕ) ℕ → Bool
is_read (Ok x) = true
is_read (Err left) = false

-- a walk over items: the body, the place in it of the next item, and the items from there on
pub record Walk : Type 0 where
  pub body : List ℕ
  pub at : ℕ
  pub items : List KeptItem

-- so many items lie in the body from the place on
pub record AreItemsIn (body : List ℕ) (at count : ℕ) : Type 0 where
  pub within : at ≤ length body
  pub read : IsTrue (is_read (times item_at count (drop at body)))

-- an item in a body: where it begins, and the place behind it
pub record IsItemAt (body : List ℕ) (at : ℕ) (item : KeptItem) (next : ℕ) : Type 0 where
  pub read : item_at (drop at body) ≡ Ok (item, drop next body)
  pub fits : FitsKept item
  pub ends : next ≡ at + 44
  pub within : next ≤ length body

-- one step of a walk, over an item: all its 44 bytes lie in the body
pub record StepsOver (old : Walk) (found : FoundKept) (new : Walk) : Type 0 where
  pub items : old.items ≡ found.item ∷ new.items
  pub fits : FitsKept found.item
  pub fp_at : found.fp_at ≡ old.at
  pub place_at : found.place_at ≡ old.at + 32
  pub body : new.body ≡ old.body
  pub at : new.at ≡ old.at + 44
  pub within : new.at ≤ length old.body

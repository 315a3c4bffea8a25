-- Items of a Put in the bytes of a body.
use Rattle.std.specs.Prelude.{◌≡◌, ℕ, ◌+◌, ◌≤◌, ◌<◌, Bool, true, false, List, [], ◌∷◌, length, drop, Result, Ok, Err, IsTrue, IfSome}
use Rattle.message_fields.specs.Parts.{times}
use Rattle.record_body.specs.declared.body.PutItem.{PutItem}
use Rattle.record_body.specs.declared.body.FoundItem.{FoundItem}
use Rattle.record_body.specs.FirstSpelling.{item_bytes, FitsItem}
use Rattle.record_body.specs.FirstReading.{item_at}

-- the items that a reading gives, or none where it fails
abbrev pub read_items : Result (List PutItem × List ℕ) ℕ → List PutItem
read_items (Ok x) = x.0
read_items (Err left) = []

-- the reading gives items
abbrev pub is_read : Result (List PutItem × List ℕ) ℕ → Bool
is_read (Ok x) = true
is_read (Err left) = false

-- a walk over items: the body, the place in it of the next item, and the items from there on
pub record FirstWalk : Type 0 where
  pub body : List ℕ
  pub at : ℕ
  pub items : List PutItem

-- so many items lie in the body from the place on
pub record AreFirstItemsIn (body : List ℕ) (at count : ℕ) : Type 0 where
  pub within : at ≤ length body
  pub read : IsTrue (is_read (times item_at count (drop at body)))

-- an item in a body: where it begins, and the place behind it
pub record IsFirstItemAt (body : List ℕ) (at : ℕ) (item : PutItem) (next : ℕ) : Type 0 where
  pub read : item_at (drop at body) ≡ Ok (item, drop next body)
  pub fits : FitsItem item
  pub ends : next ≡ at + length (item_bytes item)
  pub within : next ≤ length body

-- one step of a walk, over an item
pub record IsFirstStepOver (old : FirstWalk) (found : FoundItem) (new : FirstWalk) : Type 0 where
  pub items : old.items ≡ found.item ∷ new.items
  pub fits : FitsItem found.item
  pub fp_at : found.fp_at ≡ old.at
  pub flag_at : found.flag_at ≡ old.at + 32
  pub place_at : found.place_at ≡ old.at + 33
  pub flag_within : found.flag_at < length old.body
  pub place_within : IfSome found.item.place (λ _. found.place_at + 12 ≤ length old.body)
  pub body : new.body ≡ old.body
  pub at : new.at ≡ old.at + length (item_bytes found.item)
  pub within : new.at ≤ length old.body

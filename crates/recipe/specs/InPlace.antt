-- Items as they lie in bytes, 36 bytes an item.
use Rattle.std.specs.Prelude.{◌≡◌, ℕ, zero, suc, ◌*◌, ◌≤◌, List, [], ◌∷◌, length, take, drop, Result, Ok, Err}
use Rattle.std.specs.Int.{w32, from_be_bytes}
use Rattle.recipe.specs.declared.items.Item.{Item}
use Rattle.recipe.specs.declared.recipe.Recipe.{Recipe}
use Rattle.recipe.specs.declared.recipe.Malformed.{Malformed}
use Rattle.recipe.specs.declared.reading.BytesLeft.{BytesLeft}
use Rattle.recipe.specs.Spelling.{spelling, item_limit}

-- the item that bytes begin with
abbrev pub first_item : List ℕ → Item
first_item bytes = record { fp = record { 0 = take 32 bytes }; secret_len = from_be_bytes w32 (take 4 (drop 32 bytes)) }

-- so many items in a row
unfoldable pub items_in : ℕ → List ℕ → List Item
items_in zero bytes = []
items_in (suc n) bytes = first_item bytes ∷ items_in n (drop 36 bytes)

-- all the bytes are the spelling of the recipe, and its items lie in the last of them
pub record LiesInSpelling (bytes : List ℕ) (count : ℕ) (items : List ℕ) (r : Recipe) : Type 0 where
  pub spelled : bytes ≡ spelling r
  pub room : length items ≡ 36 * count
  pub few : count ≤ item_limit

-- what a function returned, seen by view, is what reading gives
abbrev pub Finds : {X Y : Type 0} → (X → Y) → Result X BytesLeft → Result Y ℕ → Type 0
Finds view (Ok x) read = read ≡ Ok (view x)
Finds view (Err fault) read = read ≡ Err fault.0

-- what a check returned is what reading gives
abbrev pub Checks : Result Recipe Malformed → Result Recipe ℕ → Type 0
Checks (Ok r) reading = reading ≡ Ok r
Checks (Err fault) reading = reading ≡ Err fault.at

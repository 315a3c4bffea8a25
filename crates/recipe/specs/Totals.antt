-- Items of which only the sum of their lengths is kept.
use Rattle.std.specs.Prelude.{ℕ, ◌+◌, List, Bool, Result, Ok}
use Rattle.grammar.specs.Readers.{◌>>=◌}
use Rattle.recipe.specs.declared.items.Item.{Item}
use Rattle.recipe.specs.Spelling.{total}
use Rattle.recipe.specs.Reading.{item_at, items_at}

-- the length of the next item's secret
abbrev pub len_at : Bool → List ℕ → Result (ℕ × List ℕ) ℕ
len_at last bytes = item_at last bytes >>= λ x. Ok (x.0.secret_len, x.1)

-- a sum and the lengths of the items that were read
abbrev pub with_sum : ℕ → Result (List Item × List ℕ) ℕ → Result (ℕ × List ℕ) ℕ
with_sum sum read = read >>= λ x. Ok (sum + total x.0, x.1)

abbrev pub total_at : ℕ → List ℕ → Result (ℕ × List ℕ) ℕ
total_at n bytes = with_sum 0 (items_at n bytes)

-- What each user has spent, by the user's number.
use Rattle.std.specs.Prelude.{ℕ, ◌+◌, ◌-◌, ◌^◌, min, List, slice_index_or}
use Rattle.std.specs.List.{sum_by}
use Rattle.cd_base.specs.declared.ids.UserId.{UserId}
use Rattle.spent_table.specs.declared.Spent.{Spent}

-- no use at all
abbrev pub nothing : Spent
nothing = record { owners = 0; shares = 0; recipes = 0 }

-- what a user has spent: nothing where it has no place
abbrev pub spent_by : List Spent → UserId → Spent
spent_by table user = slice_index_or table user.0 nothing

-- so many shares with so many bytes
abbrev pub of_shares : ℕ → ℕ → Spent
of_shares owners bytes = record { owners = owners; shares = bytes; recipes = 0 }

-- a recipe of so many bytes
abbrev pub of_recipe : ℕ → Spent
of_recipe bytes = record { owners = 0; shares = 0; recipes = bytes }

-- one's numbers and more
abbrev pub both : Spent → Spent → Spent
both spent more = record { owners = spent.owners + more.owners; shares = spent.shares + more.shares; recipes = spent.recipes + more.recipes }

-- a sum, as far as 64 bits reach
abbrev pub reached : (Spent → ℕ) → List Spent → ℕ
reached f table = min (sum_by f table) (2 ^ 64 - 1)

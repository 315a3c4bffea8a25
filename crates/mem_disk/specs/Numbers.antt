-- A number for each area.
use Rattle.std.specs.Prelude.{ℕ}
use Rattle.cd_edges.specs.declared.area.Area.{Area}
use Rattle.cd_edges.specs.declared.area.Area.TheVariants.{Journal, Shares, Recipes}
use Rattle.mem_disk.specs.declared.numbers.PerArea.{PerArea}

abbrev pub number_of : PerArea → Area → ℕ
number_of numbers Journal = numbers.journal
number_of numbers Shares = numbers.shares
number_of numbers Recipes = numbers.recipes

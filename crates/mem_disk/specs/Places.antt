-- Where the ranges of an area lie.
use Rattle.std.specs.Prelude.{ℕ}
use Rattle.cd_edges.specs.declared.area.Area.{Area}
use Rattle.cd_edges.specs.declared.area.Area.TheVariants.{Journal, Shares, Recipes}

-- where the journal's second half begins, and the second region of an area of blobs
abbrev pub second_half : ℕ
second_half = 134217728

abbrev pub second_region : ℕ
second_region = 34359738368

-- the place at which an area's second range begins
abbrev pub second_of : Area → ℕ
second_of Journal = second_half
second_of Shares = second_region
second_of Recipes = second_region

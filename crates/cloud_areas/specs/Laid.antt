-- What lies behind two ends, as a server lays it.
use Rattle.std.specs.Prelude.{◌≡◌, ℕ, ◌+◌, ◌*◌, ◌≤◌, List, [], ◌∷◌, length, All}
use Rattle.container_log.specs.Laying.{Placed}
use Rattle.container_log.specs.Places.{container_len, place_of}
use Rattle.record_body.specs.Spelling.{Body}
use Rattle.user_dedup.specs.CdBase.place.Place.{Place}
use Rattle.user_dedup.specs.declared.command.Command.{Command}
use Rattle.user_dedup.specs.Spending.{spent_by_all}
use Rattle.cloud_areas.specs.Placing.{shares_placed, recipes_placed, region_start, end_of, places_of, shares_end, recipes_end}
use Rattle.cloud_areas.specs.Chains.{least_shares, least_recipes}

-- Each lies behind the one before it, and the first behind the end, at the least place from which it lies in one container.
abbrev pub AreLaid : ℕ → List Place → Type 0
AreLaid end [] = Unit {0}
AreLaid end (p ∷ ps) = (p.at ≡ place_of end p.len) × AreLaid (end_of p) ps

-- the end of the last of them
abbrev pub end_behind : ℕ → List Place → ℕ
end_behind end [] = end
end_behind end (p ∷ ps) = end_behind (end_of p) ps

-- the place of a blob
abbrev pub place_by : Placed → Place
place_by b = record { at = b.place; len = length b.blob }

-- each fits into a container
abbrev pub AreSmall : List Place → Type 0
AreSmall ps = All (λ (p : Place). p.len ≤ container_len) ps

-- What a record places is laid behind these ends of the two areas.
pub record IsLaidBehind (shares recipes : ℕ) (body : Body) : Type 0 where
  pub shares_laid : AreLaid shares (places_of (shares_placed body))
  pub shares_small : AreSmall (places_of (shares_placed body))
  pub recipes_laid : AreLaid recipes (recipes_placed body)
  pub recipes_small : AreSmall (recipes_placed body)

-- The areas have these ends: behind all that the records place, and within the bounds.
pub record HaveEnds (region : ℕ) (list : List Command) (records : List Body) (shares recipes : ℕ) : Type 0 where
  pub shares_behind : shares_end region records ≤ shares
  pub shares_bound : shares ≤ region_start region + least_shares + 2 * (spent_by_all list).shares
  pub recipes_behind : recipes_end region records ≤ recipes
  pub recipes_bound : recipes ≤ region_start region + least_recipes + 2 * (spent_by_all list).recipes

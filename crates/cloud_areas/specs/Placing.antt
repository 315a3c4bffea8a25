-- Where the records of a journal say that blobs lie.
use Rattle.std.specs.Prelude.{ℕ, ◌+◌, ◌*◌, ◌≤◌, max, List, [], ◌∷◌, map, Option, Some, None}
use Rattle.std.specs.List.{flat_map, sum_by, Contains}
use Rattle.user_dedup.specs.CdBase.ids.Fp.{Fp}
use Rattle.user_dedup.specs.CdBase.place.Place.{Place}
use Rattle.record_body.specs.declared.body.PutItem.{PutItem}
use Rattle.record_body.specs.declared.body.KeptItem.{KeptItem}
use Rattle.record_body.specs.Spelling.{Body, Put, Commit, Delete, Kept, Spent}

-- ---- what a record places

-- the places that items of a Put give
abbrev pub places_given : List PutItem → List (Fp × Place)
places_given [] = []
places_given (item ∷ items) = place_first item.fp item.place (places_given items)
  where
    place_first : Fp → Option Place → List (Fp × Place) → List (Fp × Place)
    place_first fp None more = more
    place_first fp (Some place) more = (fp, place) ∷ more

-- those that items of a Kept give
abbrev pub places_kept : List KeptItem → List (Fp × Place)
places_kept items = map (λ (item : KeptItem). (item.fp, item.place)) items

-- where the record says that shares lie
abbrev pub shares_placed : Body → List (Fp × Place)
shares_placed (Put user items) = places_given items
shares_placed (Commit commit) = []
shares_placed (Delete delete) = []
shares_placed (Kept items) = places_kept items
shares_placed (Spent spent) = []

-- where it says that a recipe lies
abbrev pub recipes_placed : Body → List Place
recipes_placed (Put user items) = []
recipes_placed (Commit commit) = record { at = commit.at; len = commit.len } ∷ []
recipes_placed (Delete delete) = []
recipes_placed (Kept items) = []
recipes_placed (Spent spent) = []

-- where all these records say that shares lie, each by its fingerprint
abbrev pub shares_in : List Body → List (Fp × Place)
shares_in bodies = flat_map shares_placed bodies

abbrev pub recipes_in : List Body → List Place
recipes_in bodies = flat_map recipes_placed bodies

-- the fingerprints of shares that have places
abbrev pub fps_placed : List (Fp × Place) → List Fp
fps_placed shares = map (λ (x : Fp × Place). x.0) shares

-- these records say where the share lies
abbrev pub HasPlace : List Body → Fp → Type 0
HasPlace records fp = (place : Place) × Contains (shares_in records) (fp, place)

-- ---- places

-- the bytes of a region of an area of blobs
abbrev pub region_len : ℕ
region_len = 34359738368

-- a region begins here
abbrev pub region_start : ℕ → ℕ
region_start region = region * region_len

abbrev pub end_of : Place → ℕ
end_of p = p.at + p.len

-- the greatest end of a place, or the least that is given
abbrev pub greatest_end : ℕ → List Place → ℕ
greatest_end least [] = least
greatest_end least (p ∷ ps) = max (end_of p) (greatest_end least ps)

-- each begins at or behind the end of those before it
abbrev pub AreBehind : ℕ → List Place → Type 0
AreBehind end [] = Unit {0}
AreBehind end (p ∷ ps) = (end ≤ p.at) × AreBehind (end_of p) ps

-- the places that some shares have
abbrev pub places_of : List (Fp × Place) → List Place
places_of shares = map (λ (x : Fp × Place). x.1) shares

-- how long they are together
abbrev pub total_len : List Place → ℕ
total_len ps = sum_by (λ (p : Place). p.len) ps

-- the ends of the shares and of the recipes that the records place in a region
abbrev pub shares_end : ℕ → List Body → ℕ
shares_end region records = greatest_end (region_start region) (places_of (shares_in records))

abbrev pub recipes_end : ℕ → List Body → ℕ
recipes_end region records = greatest_end (region_start region) (recipes_in records)

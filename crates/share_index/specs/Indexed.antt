-- How the two tables of an index stand together. No public clause cites this module.
use Rattle.std.specs.Prelude.{◌≡◌, ℕ, List, Option, Some, count_by, is_none, map, option_map}
use Rattle.std.specs.FinMap.{FinMap, get, entries}
use Rattle.pool_map.specs.Shown.{shown, through}
use Rattle.share_index.specs.declared.key.Kept.{Kept}
use Rattle.cd_base.specs.declared.place.Place.{Place}
use Rattle.share_index.specs.Order.{owner_cmp}
use Rattle.cd_base.specs.Order.{fp_cmp}
use Rattle.share_index.specs.Owning.{Owners}
use Rattle.share_index.specs.Placing.{Places}
use Rattle.share_index.specs.Shares.{Shares, owners_of}

abbrev pub place_in : Kept → Place
place_in k = k.place

abbrev pub placed_slots : List (Option (List ℕ × Kept)) → List (Option (List ℕ × Place))
placed_slots slots = map (option_map (through place_in)) slots

abbrev pub shares_in : Places → Owners → Shares
shares_in p o = record {
  places = shown place_in p.kept;
  owners = o.owners;
  place_slots = placed_slots p.slots;
  owner_slots = o.slots;
  fps = p.room;
  accounts = o.accounts;
}

-- how many owners have a fingerprint without a place
abbrev pub unplaced_in : FinMap fp_cmp Kept → FinMap owner_cmp ℕ → ℕ
unplaced_in kept owners = count_by (λ e. is_none (get kept e.0.fp)) (entries owners)

-- each placed fingerprint has its owners counted, and the owners without a place are counted
pub record IsIndexed (p : Places) (o : Owners) (unplaced : ℕ) : Type 0 where
  pub counted : (fp : List ℕ) (k : Kept) → get p.kept fp ≡ Some k → k.owners ≡ owners_of o.owners fp
  pub left : unplaced ≡ unplaced_in p.kept o.owners

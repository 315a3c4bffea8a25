-- A memory whose blobs lie in another region, and what a chain needs of places.
use Rattle.std.specs.Prelude.{◌≡◌, ◌≢◌, ◌⊎◌, ◌↔◌, ◌+◌, ◌-◌, ◌≤◌, ◌<◌, ℕ, List, [], ◌∷◌, length, map, Some}
use Rattle.std.specs.List.{Contains}
use Rattle.std.specs.FinMap.{get}
use Rattle.compact_lists.specs.CdBase.ids.Fp.{Fp}
use Rattle.compact_lists.specs.CdBase.ids.UserId.{UserId}
use Rattle.checkpoints.specs.ContainerLog.Places.{place_of, end_after, end_of_laid}
use Rattle.checkpoints.specs.FileIndex.key.Entry.{Entry}
use Rattle.checkpoints.specs.FileIndex.key.FileKey.{FileKey}
use Rattle.compact_lists.specs.CdBase.place.Place.{Place}
use Rattle.checkpoints.specs.SpentTable.Spending.{spent_by}
use Rattle.checkpoints.specs.CloudAreas.Placing.{region_start, end_of}
use Rattle.checkpoints.specs.CloudAreas.Chains.{LiesIn}
use Rattle.checkpoints.specs.CloudMemory.cloud.CloudMemory.{CloudMemory}
use Rattle.checkpoints.specs.CloudMemory.Memory.{Memory, as_spent}
use Rattle.checkpoints.specs.CloudMemory.Rooms.{memory_of}
use Rattle.compact_memories.specs.Kept.{live_places, live_entries, kept_in}

abbrev pub other_region : ℕ → ℕ
other_region region = 1 - region

-- ---- copies, one behind another

abbrev pub new_places : ℕ → List (Fp × Place) → List (Fp × Place)
new_places end [] = []
new_places end (x ∷ more) = (x.0, record { at = place_of end x.1.len; len = x.1.len }) ∷ new_places (end_after end x.1.len) more

abbrev pub lens_of : List (Fp × Place) → List ℕ
lens_of places = map (λ (x : Fp × Place). x.1.len) places

abbrev pub new_entries : ℕ → List (FileKey × Entry) → List (FileKey × Entry)
new_entries end [] = []
new_entries end (x ∷ more) = (x.0, record { at = place_of end x.1.len; len = x.1.len; fp = x.1.fp }) ∷ new_entries (end_after end x.1.len) more

abbrev pub entry_lens : List (FileKey × Entry) → List ℕ
entry_lens entries = map (λ (x : FileKey × Entry). x.1.len) entries

-- The memory without what is dead, with what is alive in this region, in the order of slots.
pub record IsMoved (region : ℕ) (old : CloudMemory) (new : Memory) : Type 0 where
  pub places : (fp : Fp) (place : Place) → get new.places fp.0 ≡ Some place ↔ Contains (new_places (region_start region) (live_places old)) (fp, place)
  pub files : (key : FileKey) (e : Entry) → get new.files key ≡ Some e ↔ Contains (new_entries (region_start region) (live_entries old)) (key, e)
  pub owners : new.owners ≡ old.shares.owners
  pub users : length new.spent ≡ length old.spent
  pub spent : (user : UserId) → user.0 < length old.spent → as_spent (spent_by new.spent user) ≡ kept_in (memory_of old) user
  pub shares_end : new.shares_end ≡ end_of_laid (region_start region) (lens_of (live_places old))
  pub recipes_end : new.recipes_end ≡ end_of_laid (region_start region) (entry_lens (live_entries old))

-- ---- what a checkpoint by itself needs of places

-- one ends before the other begins
abbrev pub PlacesApart : Place → Place → Type 0
PlacesApart p q = (end_of p ≤ q.at) ⊎ (end_of q ≤ p.at)

abbrev pub entry_place : Entry → Place
entry_place e = record { at = e.at; len = e.len }

-- Each blob that the memory places lies in the region and in one container, no two of an area overlap, and none ends behind the bound.
pub record PlacesLie (region shares_bound recipes_bound : ℕ) (m : Memory) : Type 0 where
  pub shares : (fp : Fp) (p : Place) → get m.places fp.0 ≡ Some p → LiesIn region p × (end_of p ≤ region_start region + shares_bound)
  pub shares_apart : (one two : Fp) (p q : Place) → get m.places one.0 ≡ Some p → get m.places two.0 ≡ Some q → one ≢ two → PlacesApart p q
  pub recipes : (key : FileKey) (e : Entry) → get m.files key ≡ Some e → LiesIn region (entry_place e) × (end_of (entry_place e) ≤ region_start region + recipes_bound)
  pub recipes_apart : (one two : FileKey) (d e : Entry) → get m.files one ≡ Some d → get m.files two ≡ Some e → one ≢ two → PlacesApart (entry_place d) (entry_place e)

-- What is moved slot by slot, one behind another. No public clause cites this module.
use Rattle.std.specs.Prelude.{◌≡◌, ℕ, List, [], ◌∷◌, ◌++◌, length, map, take, drop, Option}
use Rattle.compact_lists.specs.CdBase.ids.Fp.{Fp}
use Rattle.compact_lists.specs.CdBase.place.Place.{Place}
use Rattle.checkpoints.specs.ContainerLog.Places.{place_of, end_after, end_of_laid}
use Rattle.checkpoints.specs.FileIndex.key.Entry.{Entry}
use Rattle.checkpoints.specs.FileIndex.key.FileKey.{FileKey}
use Rattle.checkpoints.specs.CloudMemory.cloud.CloudMemory.{CloudMemory}
use Rattle.checkpoints.specs.CloudMemory.Moving.{lying_at}
use Rattle.checkpoints.specs.CloudMemory.Rooms.{memory_of}
use Rattle.checkpoints.specs.Picking.{picked}
use Rattle.compact_memories.specs.Kept.{live_at, live_places, live_entries}
use Rattle.compact_memories.specs.Moved.{new_places, new_entries}

-- things with their new places, one behind another from the end on
abbrev pub relaid : {X : Type 0} → (X → ℕ) → (ℕ → X → X) → ℕ → List X → List X
relaid len put end [] = []
relaid len put end (x ∷ more) = put (place_of end (len x)) x ∷ relaid len put (end_after end (len x)) more

-- In so many slots all has its new place, and the copies of it end there: with what the other slots have it is what all slots had, moved.
pub record RelaidSoFar {E X : Type 0} (f : Option E → Option X) (len : X → ℕ) (put : ℕ → X → X) (start : ℕ) (first new : List (Option E)) (slot end : ℕ) : Type 0 where
  pub done : picked f (take slot new) ++ relaid len put end (picked f (drop slot first)) ≡ relaid len put start (picked f first)
  pub whole : end_of_laid end (map len (picked f (drop slot first))) ≡ end_of_laid start (map len (picked f first))
  pub left : drop slot new ≡ drop slot first
  pub long : length new ≡ length first

-- ---- shares

abbrev pub share_len : Fp × Place → ℕ
share_len x = x.1.len

abbrev pub share_at : ℕ → Fp × Place → Fp × Place
share_at at x = (x.0, record { at = at; len = x.1.len })

-- So many slots' shares that some user owns have their new places, and nothing else has changed.
pub record PlacesSoFar (start : ℕ) (first new : CloudMemory) (slot end : ℕ) : Type 0 where
  pub slots : RelaidSoFar (live_at first.shares.owners) share_len share_at start first.shares.place_slots new.shares.place_slots slot end
  pub files : new.files ≡ first.files
  pub rest : memory_of new ≡ record (memory_of first) { places = new.shares.places }

-- All of them have.
pub record ArePlacesMoved (start : ℕ) (first new : CloudMemory) : Type 0 where
  pub places : live_places new ≡ new_places start (live_places first)
  pub files : new.files ≡ first.files
  pub rest : memory_of new ≡ record (memory_of first) { places = new.shares.places }

-- ---- entries

abbrev pub entry_len : FileKey × Entry → ℕ
entry_len x = x.1.len

abbrev pub entry_lying : ℕ → FileKey × Entry → FileKey × Entry
entry_lying at x = (x.0, lying_at at x.1)

abbrev pub itself : Option (FileKey × Entry) → Option (FileKey × Entry)
itself e = e

-- So many slots' entries lie at their new places, and nothing else has changed.
pub record EntriesSoFar (start : ℕ) (first new : CloudMemory) (slot end : ℕ) : Type 0 where
  pub slots : RelaidSoFar itself entry_len entry_lying start first.files.slots new.files.slots slot end
  pub shares : new.shares ≡ first.shares
  pub rest : memory_of new ≡ record (memory_of first) { files = new.files.files }

-- All of them do.
pub record AreEntriesMoved (start : ℕ) (first new : CloudMemory) : Type 0 where
  pub entries : live_entries new ≡ new_entries start (live_entries first)
  pub shares : new.shares ≡ first.shares
  pub rest : memory_of new ≡ record (memory_of first) { files = new.files.files }

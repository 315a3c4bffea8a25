-- What holds while the records of a memory are written.
use Rattle.std.specs.Prelude.{◌≡◌, ℕ, ◌+◌, ◌≤◌, Bool, true, false, List, length, slice_index_or, Some, None}
use Rattle.cloud_memory.specs.CdBase.ids.Fp.{Fp}
use Rattle.cloud_memory.specs.FileIndex.Files.{Files}
use Rattle.cloud_memory.specs.PoolMap.Slots.{slot_of, IsListed}
use Rattle.cloud_memory.specs.CdBase.place.Place.{Place}
use Rattle.cloud_memory.specs.ShareIndex.Shares.{Shares}
use Rattle.cloud_memory.specs.SpentTable.Spent.{Spent as Row}
use Rattle.cloud_memory.specs.UserDedup.Owning.{is_among}
use Rattle.cloud_memory.specs.Fitting.{AreSharePlaces, AreRecipes}
use Rattle.checkpoints.specs.Chained.{HasChains}
use Rattle.checkpoints.specs.Records.{listed, kept_at}
use Rattle.checkpoints.specs.declared.chains.OwnerChains.{OwnerChains}
use Rattle.checkpoints.specs.declared.position.Position.{Position}

-- The slots of just these fingerprints are marked.
pub record AreMarked (shares : Shares) (marks : List Bool) (fps : List Fp) : Type 0 where
  pub long : length shares.place_slots ≤ length marks
  pub marked : (s : ℕ) (fp : List ℕ) (place : Place) → slot_of shares.place_slots s ≡ Some (fp, place) → slice_index_or marks s false ≡ is_among fps (record { 0 = fp })

-- What is marked has an owner.
abbrev pub AreMarkedOwned : Shares → List Bool → Type 0
AreMarkedOwned shares marks = (slot : ℕ) → slice_index_or marks slot false ≡ true → kept_at shares.owners (slot_of shares.place_slots slot) ≡ None

-- The Puts may go on at these: the slots of what is listed are marked.
pub record IsAtPuts (shares : Shares) (marks : List Bool) (left user at : ℕ) : Type 0 where
  pub fit : AreSharePlaces shares.places
  pub stand : IsListed shares.places shares.place_slots
  pub listing : AreMarked shares marks (listed shares.owner_slots user at)
  pub few : user + left ≤ 256

-- The next record may be written.
pub record IsReadyToWrite (shares : Shares) (files : Files) (rows : List Row) (chains : OwnerChains) (marks : List Bool) (p : Position) : Type 0 where
  pub chained : HasChains shares.owner_slots chains
  pub puts : IsAtPuts shares marks p.left p.user p.owner
  pub recipes : AreRecipes files.files
  pub entries : IsListed files.files files.slots
  pub few : length rows ≤ 256

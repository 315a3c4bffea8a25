-- What an opening spares of a told cloud, and what stands after it.
use Rattle.std.specs.Prelude.{◌≡◌, ℕ, Bool, false, IsTrue, List, Result, Ok, Err}
use Rattle.std.specs.List.{Contains}
use Rattle.cloud_disk.specs.CdEdges.area.Area.{Area}
use Rattle.cloud_disk.specs.CdEdges.area.Area.TheVariants.{Journal, Shares, Recipes}
use Rattle.cloud_disk.specs.CdEdges.Disk.{Image, Cloud, IsImage, LeavesOnly, reads}
use Rattle.cloud_disk.specs.CdEdges.Shelf.{stable}
use Rattle.cloud_disk.specs.JournalStart.start.Header.{Header}
use Rattle.cloud_disk.specs.JournalHalves.Halves.{half_limit}
use Rattle.cloud_disk.specs.JournalHalves.Journals.{Where}
use Rattle.cloud_disk.specs.CommitJournal.errors.OpenErr.{OpenErr}
use Rattle.cloud_disk.specs.CommitJournal.errors.OpenErr.TheVariants.{Fault, NotBegun, Damaged, OtherStore}
use Rattle.cloud_disk.specs.CommitJournal.Openings.{MayBeBegun, OnFault}
use Rattle.cloud_disk.specs.JournalHalves.Beginnings.{IsUnbegun}
use Rattle.cloud_disk.specs.CommitJournal.States.{JournalState, IsJournalEnded}
use Rattle.cloud_disk.specs.UserDedup.command.Command.{Command}
use Rattle.cloud_disk.specs.CloudAreas.Standing.{Chain, region_in, StandsFor}
use Rattle.cloud_disk.specs.Disk.{Disk, IsOn}
use Rattle.record_laws.specs.RecordChecks.CloudMemory.Memory.{Memory, Remembers, IsPlacedBy, HasEnds, Stand}
use Rattle.cloud_opening.specs.Exact.{ReplaysAll}
use Rattle.cloud_opening.specs.Synced.{AreSynced, BeginsSynced}

-- A crash at any moment leaves what it might have left before, and the areas read as that too; or where no half was begun and one was to be
-- it is left so or with this header alone, and the other areas as they might have been left before. The three syncs come first. Where some
-- half was begun, and where none was to be, after any answer but Fault nothing else was made.
pub record Spares {T : Type 0} (header : Header) (begin : Bool) (old new : Cloud) (result : Result T OpenErr) : Type 0 where
  pub any_moment : LeavesOnly old new (MayBeBegun old.now header begin)
  pub still_read : MayBeBegun old.now header begin (reads new.now)
  pub synced : OnFault result (Unit {0}) (BeginsSynced old new)
  pub begun_stays : ¬ IsUnbegun (old.now Journal).read → OnFault result (Unit {0}) (AreSynced old new)
  pub unasked : begin ≡ false → OnFault result (Unit {0}) (AreSynced old new)

-- the image stands for some list of these
abbrev pub StandsForAnyOf : Header → List (List Command) → Image → Type 0
StandsForAnyOf header lists image = (list : List Command) × Contains lists list × StandsFor image header list

-- Whatever lists the images stood for, each image since stands for one of them.
abbrev pub KeepsLists : Header → Cloud → Cloud → Type 0
KeepsLists header old new = (lists : List (List Command)) → ((image : Image) → IsImage old.now image → StandsForAnyOf header lists image) → LeavesOnly old new (StandsForAnyOf header lists)

-- All of each area is on the disk, and the journal was read to its end: its current half has a chain with this header, which has so many
-- commands, and the memory is what its records leave.
pub record IsReadWhole (header : Header) (journal : JournalState) (m : Memory) (commands : ℕ)
    (cloud : Cloud) : Type 0 where
  pub w : Where
  pub header_is : w.start.header ≡ header
  pub ended : IsJournalEnded journal (cloud.now Journal) w
  pub on_disk : (area : Area) → cloud.now area ≡ stable (cloud.now area).read
  pub replays : ReplaysAll header w.half w.start (reads cloud.now) m (Ok commands)

-- ---- areas that stand for a list

-- It is an answer of Ok, or a device call failed.
abbrev pub IsOkOrFault : {T : Type 0} → Result T OpenErr → Type 0
IsOkOrFault (Ok value) = Unit {0}
IsOkOrFault (Err Fault) = Unit {0}
IsOkOrFault (Err (NotBegun len)) = ⊥
IsOkOrFault (Err (Damaged at byte)) = ⊥
IsOkOrFault (Err (OtherStore found asked at)) = ⊥

-- Some half is begun, or one was to be.
abbrev pub MayBegin : List ℕ → Bool → Type 0
MayBegin journal begin = IsUnbegun journal → IsTrue begin

-- The disk is made for this header's rooms, with a log for either area.
pub record IsFor (header : Header) (disk : Disk) : Type 0 where
  pub limit : disk.journal.limit ≡ half_limit header.rooms
  pub shares : disk.shares.area ≡ Shares
  pub recipes : disk.recipes.area ≡ Recipes

-- The disk stands for the list by a chain. The memory remembers the list, is placed by the chain's records and has their ends, and each
-- string and recipe stands where it says.
pub record IsLoaded (header : Header) (list : List Command) (disk : Disk) (m : Memory) (cloud : Cloud) : Type 0 where
  pub c : Chain
  pub on : IsOn header list c disk cloud
  pub remembers : Remembers header.shape list m
  pub placed : IsPlacedBy c.records m
  pub ends : HasEnds (region_in c) list c.records m
  pub stand : Stand header.shape (cloud.now Shares).read (cloud.now Recipes).read list m

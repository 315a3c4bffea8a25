-- A checkpoint of another list in the place of a chain: of the compact list, in a reclaim and in a migration.
use Rattle.std.specs.Prelude.{◌≡◌, ◌⊎◌, ◌≤◌, IsTrue, List, All}
use Rattle.cloud_disk.specs.CdEdges.area.Area.{Area}
use Rattle.cloud_disk.specs.CdEdges.area.Area.TheVariants.{Journal}
use Rattle.cloud_disk.specs.CdEdges.Disk.{Image, Cloud, LeavesOnly, IsAtArea, reads}
use Rattle.cloud_disk.specs.CdEdges.Shelf.{stable}
use Rattle.cloud_disk.specs.JournalStart.start.Header.{Header}
use Rattle.cloud_disk.specs.JournalHalves.Halves.{half_len, half_limit}
use Rattle.cloud_disk.specs.JournalHalves.Journals.{used_by, IsEither}
use Rattle.cloud_disk.specs.CommitJournal.States as journals
use Rattle.cloud_disk.specs.RecordBody.Spelling.{FitsBody}
use Rattle.cloud_disk.specs.UserDedup.command.Command.{Command}
use Rattle.cloud_disk.specs.UserDedup.Dedup.{IsSound}
use Rattle.cloud_disk.specs.CloudAreas.FormatOne.{Lays, StandsForOne}
use Rattle.cloud_disk.specs.CloudAreas.Standing.{Chain, where_of, IsChain, Holds, StandsFor}
use Rattle.cloud_disk.specs.Disk.{IsRead}

-- A chain behind which nothing was added holds a list in the areas as they are: it has room in its half, and begins with the header.
pub record IsNextChain (header : Header) (list : List Command) (next : Chain) (cloud : Cloud) : Type 0 where
  pub sound : IsSound header.shape header.cloud.0 list
  pub holds : Holds header (reads cloud.now) list next
  pub header_is : next.start.header ≡ header
  pub fit : All FitsBody next.records
  pub within : used_by (where_of next) ≤ half_limit header.rooms

-- The disk stands for a list by one chain, and another chain holds another list in the areas as they are.
pub record MaySwitch (one two : Header) (list other : List Command) (c next : Chain) (journal : journals.JournalState) (cloud : Cloud) : Type 0 where
  pub read : IsRead one list c journal cloud
  pub next_chain : IsNextChain two other next cloud

-- the image stands for the list, or for the other one
abbrev pub StandsForOneOf : Header → List Command → Header → List Command → Image → Type 0
StandsForOneOf one list two other image = StandsFor image one list ⊎ StandsFor image two other

-- each image since has the one chain or the other, and the other areas as they might have been left before
abbrev pub HasEitherChain : Chain → Chain → Cloud → Cloud → Type 0
HasEitherChain c next old new = LeavesOnly old new (IsAtArea old.now Journal (IsEither (where_of c) (where_of next)))

-- ---- from format 1

-- All is on the disk, and the journal was read to its end, whose chain is one of format 1 that holds a sound list.
pub record IsReadOne (header : Header) (list : List Command) (c : Chain) (journal : journals.JournalState) (cloud : Cloud) : Type 0 where
  pub told : IsTrue cloud.told
  pub sound : IsSound header.shape header.cloud.0 list
  pub on_disk : (area : Area) → cloud.now area ≡ stable (cloud.now area).read
  pub ended : journals.IsJournalEnded journal (cloud.now Journal) (where_of c)
  pub is_chain : IsChain header half_len (cloud.now Journal).read c
  pub lays : Lays header (reads cloud.now) list c

pub record MayMigrate (one two : Header) (list other : List Command) (c next : Chain) (journal : journals.JournalState) (cloud : Cloud) : Type 0 where
  pub read : IsReadOne one list c journal cloud
  pub next_chain : IsNextChain two other next cloud

-- the image stands for the list in format 1, or for the other one in format 2
abbrev pub IsMigrating : Header → List Command → Header → List Command → Image → Type 0
IsMigrating one list two other image = StandsForOne image one list ⊎ StandsFor image two other

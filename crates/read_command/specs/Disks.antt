-- What the disks of the chosen clouds are, and what an opening finds and leaves there.
use Rattle.std.specs.Prelude.{◌≡◌, ℕ, false, IsTrue, List, ◌∷◌, ◌++◌, Result, Ok, Err}
use Rattle.std.specs.List.{Contains}
use Rattle.commit_journal.specs.CdBase.shape.Shape.{Shape}
use Rattle.commit_journal.specs.CdEdges.area.Area.TheVariants.{Journal}
use Rattle.commit_journal.specs.CdEdges.Disk.{Cloud, Image, IsImage, LeavesOnly, reads}
use Rattle.commit_journal.specs.declared.errors.OpenErr.{OpenErr}
use Rattle.commit_journal.specs.JournalStart.start.Header.{Header}
use Rattle.commit_journal.specs.Openings.{OnFault}
use Rattle.commit_journal.specs.JournalHalves.Beginnings.{IsUnbegun}
use Rattle.commit_journal.specs.JournalHalves.Findings.{IsFoundDamage}
use Rattle.commit_journal.specs.JournalHalves.Halves.{IsCurrent}
use Rattle.commit_journal.specs.JournalStart.rooms.UserRooms.{UserRooms}
use Rattle.commit_journal.specs.JournalStart.start.Start.{Start}
use Rattle.commit_journal.specs.JournalStart.Ranges.{usual_rooms}
use Rattle.cloud_areas.specs.UserDedup.command.Command.{Command}
use Rattle.local_link.specs.CloudMemory.Memory.{Memory}
use Rattle.local_link.specs.CloudOpening.Exact.{Opens}
use Rattle.local_link.specs.ShareServer.Openings.{HasNoOther, NotBegunIs, OpensTo, OtherStoreIs}
use Rattle.cloud_areas.specs.UserDedup.Spending.{IsWithin}
use Rattle.cloud_areas.specs.Peers.{ImagesNow, ImagesSince}
use Rattle.cloud_areas.specs.Standing.{StandsFor}
use Rattle.local_link.specs.Calls.{header_of}

-- The rooms that a journal names: those of the start of its current half; where it has none, since no half is begun or
-- the start of one is damaged, the usual ones.
pub data NamesRooms (journal : List ℕ) : UserRooms → Type 0 where
  Current : (half : ℕ) (start : Start) → IsCurrent journal half start → NamesRooms journal start.header.rooms
  Unbegun : IsUnbegun journal → NamesRooms journal usual_rooms
  Broken : (at byte : ℕ) → IsFoundDamage journal at byte → NamesRooms journal usual_rooms

-- this of the header of a cloud of a store of this shape, in the rooms that the cloud's journal names
abbrev pub InItsRooms : Shape → ℕ → Cloud → (Header → Type 0) → Type 0
InItsRooms shape number cloud P =
    (rooms : UserRooms) × NamesRooms (reads cloud.now Journal) rooms × P (header_of shape rooms number)

-- The cloud is told, its store is begun, and what it reads stands for the list, which is within the header's rooms.
pub record IsReadable (header : Header) (cloud : Cloud) (list : List Command) : Type 0 where
  pub told : IsTrue cloud.told
  pub begun : ¬ IsUnbegun (reads cloud.now Journal)
  pub stands : StandsFor (reads cloud.now) header list
  pub within : IsWithin header.shape header.rooms list

-- so of each named cloud of a store of this shape, each in rooms of its own
abbrev pub AreReadable : Shape → List ℕ → (ℕ → Cloud) → (ℕ → UserRooms) → (ℕ → List Command) → Type 0
AreReadable shape named clouds rooms lists = (cloud : ℕ) → Contains named cloud
    → IsReadable (header_of shape (rooms cloud) cloud) (clouds cloud) (lists cloud)

-- What the areas read opens: a store that is begun, and has no other header.
pub record IsOpenedToRead (header : Header) (cloud : Cloud) : Type 0 where
  pub commands : ℕ
  pub opens : OpensTo header false (reads cloud.now) (Ok commands)
  pub begun : ¬ IsUnbegun (reads cloud.now Journal)
  pub own : HasNoOther (reads cloud.now Journal) header

-- What the areas read opens, and of the memory that its opening reads this is said.
pub record OpensWith (header : Header) (cloud : Cloud) (P : Memory → Type 0) : Type 0 where
  pub memory : Memory
  pub commands : ℕ
  pub opens : Opens header false (reads cloud.now) memory (Ok commands)
  pub has : P memory

-- What the areas read doesn't open: it comes to this error, unless the error is that a device call failed.
pub record IsUnopenedToRead (header : Header) (old new : Cloud) (error : OpenErr) : Type 0 where
  pub exact : let answer : Result ℕ OpenErr = Err error in
      OnFault answer (Unit {0}) (OpensTo header false (reads old.now) answer)
  pub not_begun : let answer : Result ℕ OpenErr = Err error in NotBegunIs old new false answer
  pub other_store : let answer : Result ℕ OpenErr = Err error in OtherStoreIs (reads old.now Journal) header answer

-- What the areas read doesn't open in the rooms that their journal names; or the error is that a device call failed.
abbrev pub StaysShut : Shape → ℕ → Cloud → Cloud → OpenErr → Type 0
StaysShut shape number old new error = let answer : Result ℕ OpenErr = Err error in
    OnFault answer (Unit {0}) (InItsRooms shape number old (λ (header : Header). IsUnopenedToRead header old new error))

-- A crash at any moment leaves what it might have left before, and the areas read as that too.
pub record IsSpared (old new : Cloud) : Type 0 where
  pub any_moment : LeavesOnly old new (λ (image : Image). IsImage old.now image)
  pub still_read : IsImage old.now (reads new.now)

-- The cloud is the first of the named ones, in order, that doesn't open; it answers this error.
pub record IsStoppedAtCloud (shape : Shape) (named : List ℕ) (old new : ℕ → Cloud) (cloud : ℕ)
    (error : OpenErr) : Type 0 where
  pub front : List ℕ
  pub rest : List ℕ
  pub place : named ≡ front ++ cloud ∷ rest
  pub opened : (before : ℕ) → Contains front before → IsTrue (old before).told
      → InItsRooms shape before (old before) (λ (header : Header). IsOpenedToRead header (old before))
  pub stops : IsTrue (old cloud).told → StaysShut shape cloud (old cloud) (new cloud) error

-- Each image since then of a named cloud that is told stands for one of the lists that its images stood for with some
-- rooms, where these lists are within the rooms; the other clouds are as they were.
pub record KeepsDisks (shape : Shape) (named : List ℕ) (old new : ℕ → Cloud) : Type 0 where
  pub chosen : (cloud : ℕ) (rooms : UserRooms) (lists : List (List Command)) → Contains named cloud
      → IsTrue (old cloud).told
      → ((list : List Command) → Contains lists list → IsWithin shape rooms list)
      → ImagesNow (old cloud) (header_of shape rooms cloud) (Contains lists)
      → ImagesSince (old cloud) (new cloud) (header_of shape rooms cloud) (Contains lists)
  pub others : (cloud : ℕ) → (Contains named cloud → ⊥) → new cloud ≡ old cloud

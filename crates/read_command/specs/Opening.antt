-- How the openings of the chosen clouds end.
use Rattle.std.specs.Prelude.{◌≡◌, ℕ, IsTrue, List, Result, OnOk, IfErr}
use Rattle.std.specs.List.{Contains}
use Rattle.commit_journal.specs.CdBase.ids.CloudNo.{CloudNo}
use Rattle.commit_journal.specs.CdBase.shape.Shape.{Shape}
use Rattle.commit_journal.specs.CdEdges.area.Area.TheVariants.{Journal}
use Rattle.commit_journal.specs.CdEdges.Disk.{Cloud, reads}
use Rattle.commit_journal.specs.CdEdges.Shelf.{HasFailed, KeepsCounts}
use Rattle.commit_journal.specs.declared.errors.OpenErr.{OpenErr}
use Rattle.commit_journal.specs.declared.errors.OpenErr.TheVariants as errors
use Rattle.commit_journal.specs.JournalStart.start.Header.{Header}
use Rattle.local_link.specs.ShareServer.Names.{header_of}
use Rattle.commit_journal.specs.JournalStart.rooms.UserRooms.{UserRooms}
use Rattle.cloud_areas.specs.UserDedup.command.Command.{Command}
use Rattle.cloud_areas.specs.UserDedup.Spending.{IsWithin}
use Rattle.cloud_areas.specs.Standing.{StandsFor}
use Rattle.local_link.specs.ShareServer.Serving.{settled_with}
use Rattle.local_link.specs.declared.link.LocalLink.{LocalLink}
use Rattle.local_link.specs.CloudMemory.Memory.{Memory}
use Rattle.local_link.specs.Tells.{IsRemembered, StandsAt, header_at, rooms_at, server_at}
use Rattle.read_command.specs.declared.end.ReadEnd.{ReadEnd}
use Rattle.read_command.specs.declared.end.ReadEnd.TheVariants as ends
use Rattle.read_command.specs.Disks.{IsReadable, IsOpenedToRead, IsSpared, IsStoppedAtCloud, InItsRooms, NamesRooms, OpensWith}
use Rattle.read_command.specs.Disks.{StaysShut}

-- the end of a read whose opening of the cloud answered this error
abbrev pub end_by : CloudNo → OpenErr → ReadEnd
end_by cloud errors.Fault = ends.ShelfFault cloud
end_by cloud (errors.NotBegun len) = ends.NotBegun cloud len
end_by cloud (errors.Damaged at byte) = ends.Damaged cloud at byte
end_by cloud (errors.OtherStore found asked at) = ends.Other cloud found

-- The end that an opening's error gives, of which this is said, with this beside it where a device failed; or want of
-- memory.
abbrev pub EndsByError : (ℕ → OpenErr → Type 0) → (ℕ → Type 0) → ReadEnd → Type 0
EndsByError Stops Failed (ends.NotBegun cloud len) = Stops cloud.0 (errors.NotBegun len)
EndsByError Stops Failed (ends.Damaged cloud at byte) = Stops cloud.0 (errors.Damaged at byte)
EndsByError Stops Failed (ends.Other cloud found) =
    (asked : Header) × (at : ℕ) × Stops cloud.0 (errors.OtherStore found asked at)
EndsByError Stops Failed (ends.ShelfFault cloud) = Stops cloud.0 errors.Fault × Failed cloud.0
EndsByError Stops Failed ends.NoMemory = Unit {0}
EndsByError Stops Failed ends.Done = ⊥
EndsByError Stops Failed ends.Refused = ⊥
EndsByError Stops Failed ends.SinkFault = ⊥

-- one cloud was to be opened
abbrev pub EndsOne : Shape → Cloud → Cloud → ℕ → ℕ → ℕ → ReadEnd → Type 0
EndsOne shape old new before now number end = EndsByError
    (λ cloud error. (cloud ≡ number) × (IsTrue old.told → StaysShut shape number old new error))
    (λ cloud. HasFailed old new before now) end

-- the named clouds were to be opened, in order
abbrev pub EndsOpening : Shape → List ℕ → (ℕ → Cloud) → (ℕ → Cloud) → ℕ → ℕ → ReadEnd → Type 0
EndsOpening shape named old new before now end = EndsByError (IsStoppedAtCloud shape named old new)
    (λ cloud. HasFailed (old cloud) (new cloud) before now) end

-- a device failed, or memory ran out
abbrev pub IsFailedOrNoMemory : ReadEnd → Type 0
IsFailedOrNoMemory (ends.NotBegun cloud len) = ⊥
IsFailedOrNoMemory (ends.Damaged cloud at byte) = ⊥
IsFailedOrNoMemory (ends.Other cloud found) = ⊥
IsFailedOrNoMemory (ends.ShelfFault cloud) = Unit {0}
IsFailedOrNoMemory ends.NoMemory = Unit {0}
IsFailedOrNoMemory ends.Done = Unit {0}
IsFailedOrNoMemory ends.Refused = Unit {0}
IsFailedOrNoMemory ends.SinkFault = Unit {0}

-- The cloud's server has this header. What the areas read opens with it, to this memory; a crash leaves nothing else; and
-- the server has that memory where it is open.
abbrev pub IsRememberedAt : {V : Type 0} → (V → ℕ → Cloud) → LocalLink V → ℕ → Header → Memory → Type 0
IsRememberedAt clouds link cloud header m = (header_at link.servers cloud ≡ header)
    × IsRemembered header (clouds link.shelf.now cloud) (server_at link.servers cloud) m

-- A cloud that was so was to be opened. Where it opens, its server has the rooms that its journal names, and it stands for
-- the list that its areas read as, if there is one within these, and nothing failed; the server has the memory that the
-- opening read, and the areas read as they did. Whatever comes it is spared, and not armed.
pub record Opening {V : Type 0} (clouds : V → ℕ → Cloud) (shape : Shape) (old : Cloud) (before : ℕ)
    (new : LocalLink V) (now cloud : ℕ) (result : Result (Unit {0}) ReadEnd) : Type 0 where
  pub opened : IsTrue old.told
      → OnOk result (InItsRooms shape cloud old (λ (header : Header). IsOpenedToRead header old))
  pub rooms : IsTrue old.told → OnOk result (NamesRooms (reads old.now Journal) (rooms_at new.servers cloud))
  pub memory : IsTrue old.told → OnOk result (InItsRooms shape cloud old
      (λ (header : Header). OpensWith header old (IsRememberedAt clouds new cloud header)))
  pub same : IsTrue old.told → OnOk result (reads (clouds new.shelf.now cloud).now ≡ reads old.now)
  pub loaded : IsTrue old.told → (rooms : UserRooms) (list : List Command)
      → StandsFor (reads old.now) (header_of shape rooms cloud) list
      → IsWithin shape rooms list
      → OnOk result (StandsAt clouds new cloud (settled_with list (clouds new.shelf.now cloud)))
  pub counts : OnOk result (KeepsCounts old (clouds new.shelf.now cloud) before now)
  pub readable : (rooms : UserRooms) (list : List Command) → IsReadable (header_of shape rooms cloud) old list
      → IfErr result IsFailedOrNoMemory
  pub end : IfErr result (EndsOne shape old (clouds new.shelf.now cloud) before now cloud)
  pub spared : IsTrue old.told → IsSpared old (clouds new.shelf.now cloud)
  pub armings : (clouds new.shelf.now cloud).armings ≡ old.armings

-- A cloud of a link was opened, in the rooms that its journal names. It stands for the list that its areas read as, if
-- there is one within these. Its server has the memory that the opening read, and the areas read as they did. It isn't
-- armed.
pub record BecomesOpen {V : Type 0} (clouds : V → ℕ → Cloud) (old new : LocalLink V) (cloud : ℕ) : Type 0 where
  pub opened : IsTrue (clouds old.shelf.now cloud).told
      → InItsRooms old.servers.shape cloud (clouds old.shelf.now cloud)
      (λ (header : Header). IsOpenedToRead header (clouds old.shelf.now cloud))
  pub rooms : IsTrue (clouds old.shelf.now cloud).told
      → NamesRooms (reads (clouds old.shelf.now cloud).now Journal) (rooms_at new.servers cloud)
  pub memory : IsTrue (clouds old.shelf.now cloud).told
      → InItsRooms old.servers.shape cloud (clouds old.shelf.now cloud)
      (λ (header : Header). OpensWith header (clouds old.shelf.now cloud) (IsRememberedAt clouds new cloud header))
  pub same : IsTrue (clouds old.shelf.now cloud).told
      → reads (clouds new.shelf.now cloud).now ≡ reads (clouds old.shelf.now cloud).now
  pub loaded : IsTrue (clouds old.shelf.now cloud).told → (rooms : UserRooms) (list : List Command)
      → StandsFor (reads (clouds old.shelf.now cloud).now) (header_of old.servers.shape rooms cloud) list
      → IsWithin old.servers.shape rooms list
      → StandsAt clouds new cloud (settled_with list (clouds new.shelf.now cloud))
  pub faults : (clouds new.shelf.now cloud).faults ≡ (clouds old.shelf.now cloud).faults
  pub armings : (clouds new.shelf.now cloud).armings ≡ (clouds old.shelf.now cloud).armings

-- These clouds of a link were opened. The shelf has no more faults than before, and no cloud was armed.
pub record AreOpened {V : Type 0} (clouds : V → ℕ → Cloud) (before now : ℕ) (old new : LocalLink V) (named : List ℕ)
    : Type 0 where
  pub each : (cloud : ℕ) → Contains named cloud → BecomesOpen clouds old new cloud
  pub shape : new.servers.shape ≡ old.servers.shape
  pub fate : new.fate ≡ old.fate
  pub told : (cloud : ℕ) → (clouds new.shelf.now cloud).told ≡ (clouds old.shelf.now cloud).told
  pub armings : (cloud : ℕ) → (clouds new.shelf.now cloud).armings ≡ (clouds old.shelf.now cloud).armings
  pub total : now ≡ before

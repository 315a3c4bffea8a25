-- What the first steps of a session come to: its first line, the areas that are to be empty, and the first openings.
use Rattle.std.specs.Prelude.{◌≡◌, ◌≢◌, ℕ, ◌<◌, ◌≤◌, ◌++◌, ◌⊎◌, false, IsTrue, List, [], length, Option, Some, IfSome}
use Rattle.share_server.specs.CdBase.ids.CloudNo.{CloudNo}
use Rattle.share_server.specs.JournalStart.rooms.UserRooms.{UserRooms}
use Rattle.share_server.specs.CdBase.shape.Shape.{Shape}
use Rattle.share_server.specs.CdEdges.area.Area.{Area}
use Rattle.share_server.specs.CdEdges.area.Area.TheVariants as areas
use Rattle.share_server.specs.CdEdges.Causes.{Rose}
use Rattle.share_server.specs.CdEdges.Disk.{Cloud, Image, IsImage, reads}
use Rattle.share_server.specs.CdEdges.Shelf.{Stays}
use Rattle.share_server.specs.JournalStart.start.Header.{Header}
use Rattle.share_server.specs.CommitJournal.errors.OpenErr.{OpenErr}
use Rattle.share_server.specs.CommitJournal.errors.OpenErr.TheVariants as open_errors
use Rattle.share_server.specs.CloudAreas.Peers.{ImagesSince}
use Rattle.script_lines.specs.LocalLink.link.LocalLink.{LocalLink}
use Rattle.script_lines.specs.LocalLink.Calls.{no_commands}
use Rattle.script_lines.specs.LocalLink.Tells.{server_at, rooms_at, header_at, StandsAt}
use Rattle.two_worlds.specs.Session.Lines.{ReaderState}
use Rattle.two_worlds.specs.Session.Scripts.{ScriptPlace, Begins}
use Rattle.share_server.specs.Refusals.{IsNamedDamage}
use Rattle.replay_core.specs.declared.end.ReplayEnd.{ReplayEnd}
use Rattle.replay_core.specs.declared.end.ReplayEnd.TheVariants as ends

-- ---- the first line

-- the reader before its first line
abbrev pub before_first : ReaderState
before_first = record { line = []; ahead = []; taken = 0 }

-- The reader and what is still to come of its source are at this place of a script, behind so many uploads.
pub record IsThere (reader : ReaderState) (left : Option (List ℕ)) (jobs : ℕ) (place : ScriptPlace) : Type 0 where
  pub jobs_are : place.jobs ≡ jobs
  pub taken : reader.taken ≡ place.taken
  pub unread : List ℕ
  pub left_is : left ≡ Some unread
  pub rest : reader.ahead ++ unread ≡ place.rest

-- the source's bytes begin with this first line, behind which the reader is now
abbrev pub IsHead : Option (List ℕ) → Shape → UserRooms → ReaderState → Option (List ℕ) → Type 0
IsHead script shape rooms reader left =
    IfSome script (λ bytes. (place : ScriptPlace) × Begins bytes shape rooms place × IsThere reader left 0 place)

-- ---- clouds that are to be empty

-- the cloud's area reads as nothing
abbrev pub IsEmptyAt : Cloud → Area → Type 0
IsEmptyAt cloud area = reads cloud.now area ≡ []

-- the areas in front of this one are empty: journal, shares, recipes
abbrev pub AreEmptyBefore : Area → Cloud → Type 0
AreEmptyBefore areas.Journal cloud = Unit {0}
AreEmptyBefore areas.Shares cloud = IsEmptyAt cloud areas.Journal
AreEmptyBefore areas.Recipes cloud = IsEmptyAt cloud areas.Journal × IsEmptyAt cloud areas.Shares

-- so many clouds from the first on read as nothing, where they are told
abbrev pub AreEmptyBelow : (ℕ → Cloud) → ℕ → Type 0
AreEmptyBelow clouds count =
    (cloud : ℕ) (area : Area) → cloud < count → IsTrue (clouds cloud).told → IsEmptyAt (clouds cloud) area

-- Either these clouds read as nothing, where they are told, or each cloud holds what it held, at all its moments.
abbrev pub AreSpared : ℕ → (ℕ → Cloud) → (ℕ → Cloud) → Type 0
AreSpared count old new = AreEmptyBelow old count ⊎ ((cloud : ℕ) → Stays (old cloud) (new cloud))

-- the first area that isn't empty, and its length
pub record IsFirstFilled (clouds : ℕ → Cloud) (cloud : ℕ) (area : Area) (len : ℕ) : Type 0 where
  pub some : len ≢ 0
  pub clouds_before : (other : ℕ) (each : Area) → other < cloud → IsTrue (clouds other).told
      → IsEmptyAt (clouds other) each
  pub areas_before : IsTrue (clouds cloud).told → AreEmptyBefore area (clouds cloud)
  pub len_is : IsTrue (clouds cloud).told → len ≡ length (reads (clouds cloud).now area)

-- ---- clouds before they are opened, and as they are opened first

-- every image is empty
abbrev pub IsBlank : Cloud → Type 0
IsBlank cloud = (image : Image) (area : Area) → IsImage cloud.now image → image area ≡ []

-- The cloud is armed no more often than it was; and where every image was empty, each image since stands for no
-- commands.
pub record Prepares (header : Header) (old new : Cloud) : Type 0 where
  pub told : new.told ≡ old.told
  pub later : old.faults ≤ new.faults
  pub armings : new.armings ≡ old.armings
  pub images : IsTrue old.told → IsBlank old → ImagesSince old new header (λ list. list ≡ [])

-- so each cloud of the store, by its header, and the others are as they were
pub record PreparesAll (headers : ℕ → Header) (shape : Shape) (old new : ℕ → Cloud) : Type 0 where
  pub each : (cloud : ℕ) → cloud < shape.n → Prepares (headers cloud) (old cloud) (new cloud)
  pub others : (cloud : ℕ) → shape.n ≤ cloud → new cloud ≡ old cloud

-- all is as it was
abbrev pub AreSame : (ℕ → Cloud) → (ℕ → Cloud) → Type 0
AreSame old new = (cloud : ℕ) → new cloud ≡ old cloud

-- where the cloud is told, its areas are empty
abbrev pub IsEmpty : Cloud → Type 0
IsEmpty cloud = IsTrue cloud.told → (area : Area) → IsEmptyAt cloud area

-- how a replay ends at one cloud that is to be empty
abbrev pub EndsEmpty : ℕ → Cloud → Cloud → ReplayEnd → Type 0
EndsEmpty number old new (ends.NotEmpty cloud area len) =
    (cloud.0 ≡ number) × (len ≢ 0) × (IsTrue old.told → AreEmptyBefore area old × (len ≡ length (reads old.now area)))
    × (new ≡ old)
EndsEmpty number old new (ends.ShelfFault cloud) =
    (cloud.0 ≡ number) × Rose old.faults new.faults × Stays old new
EndsEmpty number old new end = ⊥

-- how a replay ends at the first opening of a cloud
abbrev pub EndsAtOpening : ℕ → Cloud → Cloud → ReplayEnd → Type 0
EndsAtOpening number old new (ends.ShelfFault cloud) = (cloud.0 ≡ number) × Rose old.faults new.faults
EndsAtOpening number old new (ends.Damaged cloud at byte) = (cloud.0 ≡ number) × (old.told ≡ false)
EndsAtOpening number old new end = ⊥

-- the end of a replay whose first opening of the cloud ended with this error: damage is named as a restart names it
abbrev pub IsEndOf : CloudNo → OpenErr → ReplayEnd → Type 0
IsEndOf cloud open_errors.Fault end = end ≡ ends.ShelfFault cloud
IsEndOf cloud error end = (at : ℕ) × (byte : ℕ) × IsNamedDamage error at byte × (end ≡ ends.Damaged cloud at byte)

-- how a replay ends before its clouds are opened, behind its first line
abbrev pub EndsUnopened : Shape → (ℕ → Cloud) → (ℕ → Cloud) → ReplayEnd → Type 0
EndsUnopened shape old new (ends.NotEmpty cloud area len) =
    (cloud.0 < shape.n) × IsFirstFilled old cloud.0 area len × AreSame old new
EndsUnopened shape old new (ends.ShelfFault cloud) =
    (cloud.0 < shape.n) × Rose (old cloud.0).faults (new cloud.0).faults × AreEmptyBelow old cloud.0
    × AreSpared shape.n old new
EndsUnopened shape old new (ends.Damaged cloud at byte) =
    (cloud.0 < shape.n) × ((old cloud.0).told ≡ false) × AreEmptyBelow old shape.n
EndsUnopened shape old new end = ⊥

-- ---- the link

-- So many clouds were opened, each of which stands for no commands, and the others wait.
pub record OpensClouds {V : Type 0} (clouds : V → ℕ → Cloud) (old new : LocalLink V) (count : ℕ) : Type 0 where
  pub shape : new.servers.shape ≡ old.servers.shape
  pub fate : new.fate ≡ old.fate
  pub rooms : (cloud : ℕ) → rooms_at new.servers cloud ≡ rooms_at old.servers cloud
  pub stands : (cloud : ℕ) → cloud < count → StandsAt clouds new cloud (no_commands (clouds old.shelf.now cloud))
  pub prepares : (cloud : ℕ) → cloud < count
      → Prepares (header_at old.servers cloud) (clouds old.shelf.now cloud) (clouds new.shelf.now cloud)
  pub clouds_wait : (cloud : ℕ) → count ≤ cloud → clouds new.shelf.now cloud ≡ clouds old.shelf.now cloud
  pub servers_wait : (cloud : ℕ) → count ≤ cloud → server_at new.servers cloud ≡ server_at old.servers cloud

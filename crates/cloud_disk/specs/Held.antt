-- Blobs that lie in an area before its log's end, and what a flush of the log leaves of them.
use Rattle.std.specs.Prelude.{◌≡◌, ℕ, ◌+◌, ◌≤◌, List, [], ◌∷◌, ◌++◌, length, All, OnOk, Result, IsTrue}
use Rattle.commit_journal.specs.CdEdges.area.Area.{Area}
use Rattle.commit_journal.specs.CdEdges.area.Area.TheVariants.{Journal, Shares, Recipes}
use Rattle.commit_journal.specs.CdEdges.Disk.{Store, Areas, Image, Cloud, LeavesOnly, IsAtArea, MayLeave, overwritten}
use Rattle.commit_journal.specs.CdEdges.Shelf.{stable}
use Rattle.cloud_areas.specs.ContainerLog.Laying.{Placed, placed, IsAt}
use Rattle.cloud_areas.specs.ContainerLog.Kept.{KeepsBelow}
use Rattle.cloud_areas.specs.ContainerLog.States.{State, HasStaged, Agrees}

-- ---- one area

-- each blob ends there or before
abbrev pub IsBelow : ℕ → Placed → Type 0
IsBelow end b = b.place + length b.blob ≤ end

abbrev pub AreBelow : ℕ → List Placed → Type 0
AreBelow end blobs = All (IsBelow end) blobs

-- each blob lies at its place in these bytes
abbrev pub LieIn : List Placed → List ℕ → Type 0
LieIn blobs bytes = All (IsAt bytes) blobs

-- The log is this area's, and each container that it keeps is what the area has there. These blobs lie in the area before the
-- log's end, and all of the area is on the disk.
pub record LogHolds (area : Area) (blobs : List Placed) (log : State) (now : Areas) : Type 0 where
  pub area_is : log.area ≡ area
  pub agrees : Agrees log (now log.area).read
  pub on_disk : now area ≡ stable (now area).read
  pub below : AreBelow log.end blobs
  pub laid : LieIn blobs (now area).read

-- the blobs, and those that are staged behind the log's end
abbrev pub with_staged : List Placed → State → List (List ℕ) → List Placed
with_staged blobs log staged = blobs ++ placed log.end staged

-- ---- both areas of blobs

-- Both logs do, and the journal is on the disk too.
pub record LogsHold (in_shares in_recipes : List Placed) (shares recipes : State) (now : Areas) : Type 0 where
  pub journal : now Journal ≡ stable (now Journal).read
  pub shares_held : LogHolds Shares in_shares shares now
  pub recipes_held : LogHolds Recipes in_recipes recipes now

-- an image with this journal and these blobs
pub record IsHeld (journal : List ℕ) (in_shares in_recipes : List Placed) (image : Image) : Type 0 where
  pub journal_is : image Journal ≡ journal
  pub shares_lie : LieIn in_shares (image Shares)
  pub recipes_lie : LieIn in_recipes (image Recipes)

-- ---- a flush

-- the moments of a write of these bytes with its sync: none where there are no bytes, and else one for each call
abbrev pub write_moments : List ℕ → ℕ
write_moments [] = 0
write_moments (byte ∷ bytes) = 2

-- the moments of a flush
abbrev pub flush_moments : State → ℕ
flush_moments log = write_moments log.staged

-- the area with these bytes written at this end, and synced; where there are none, as it was
abbrev pub with_written : Store → ℕ → List ℕ → Store
with_written store end [] = store
with_written store end (byte ∷ bytes) = stable (overwritten store.read end (byte ∷ bytes))

-- What was staged in the log stands behind its end in this area, and is on the disk with all of the area; where nothing was, the area is as
-- it was. Each blob that was staged lies at its place, and each that lay in front of the end lies there still.
pub record IsFlushed (log : State) (before after : Store) : Type 0 where
  pub is : after ≡ with_written before log.end log.staged
  pub laid : (staged : List (List ℕ)) → HasStaged log staged → LieIn (placed log.end staged) after.read
  pub kept : (b : Placed) → IsBelow log.end b → IsAt before.read b → IsAt after.read b

-- The same of both areas.
pub record AreFlushed (shares recipes : State) (old new : Cloud) : Type 0 where
  pub in_shares : IsFlushed shares (old.now Shares) (new.now Shares)
  pub in_recipes : IsFlushed recipes (old.now Recipes) (new.now Recipes)

-- Whatever lies in both areas: after Ok what was staged lies there too, synced.
abbrev pub FlushBoth : {T E : Type 0} → State → State → Cloud → Cloud → Result T E → Type 0
FlushBoth shares recipes old new result = IsTrue old.told → shares.area ≡ Shares → recipes.area ≡ Recipes → OnOk result (AreFlushed shares recipes old new)

-- Whatever blobs lie there: each image since has them.
abbrev pub KeepsBlobsSince : State → Cloud → Cloud → Type 0
KeepsBlobsSince log old new = IsTrue old.told → (blobs : List Placed) → LogHolds log.area blobs log old.now
    → LeavesOnly old new (IsAtArea old.now log.area (LieIn blobs))

-- Whatever blobs lie there, and whatever is staged: those that were staged lie there too.
abbrev pub HasFlushed : {T E : Type 0} → State → State → Cloud → Cloud → Result T E → Type 0
HasFlushed before after old new result = IsTrue old.told → (blobs : List Placed) (staged : List (List ℕ))
    → LogHolds before.area blobs before old.now → HasStaged before staged
    → OnOk result (LogHolds before.area (with_staged blobs before staged) after new.now)

-- The same of both areas, whatever lies in them.
abbrev pub KeepBoth : State → State → Cloud → Cloud → Type 0
KeepBoth shares recipes old new = IsTrue old.told → (in_shares in_recipes : List Placed) (new_shares : List (List ℕ))
    → LogsHold in_shares in_recipes shares recipes old.now → HasStaged shares new_shares
    → LeavesOnly old new (IsHeld (old.now Journal).read in_shares in_recipes)

-- Whatever lies in both areas and is staged for them: it lies there then, and the journal is as it was.
pub record HaveBoth (in_shares in_recipes : List Placed) (shares recipes : State) (old new : Cloud) : Type 0 where
  pub held : LogsHold in_shares in_recipes shares recipes new.now
  pub journal_is : new.now Journal ≡ old.now Journal

abbrev pub HaveFlushed : {T E : Type 0} → State → State → State → State → Cloud → Cloud → Result T E → Type 0
HaveFlushed shares recipes after_shares after_recipes old new result = IsTrue old.told
    → (in_shares in_recipes : List Placed) (new_shares new_recipes : List (List ℕ))
    → LogsHold in_shares in_recipes shares recipes old.now → HasStaged shares new_shares → HasStaged recipes new_recipes
    → OnOk result (HaveBoth (with_staged in_shares shares new_shares) (with_staged in_recipes recipes new_recipes) after_shares after_recipes old new)

-- ---- whatever lies in the areas

-- an image with the journal as it might have been left, and below the ends of both logs with all that lay in their areas at the last sync
abbrev pub HasFronts : State → State → Cloud → Image → Type 0
HasFronts shares recipes old image =
    MayLeave (old.now Journal) (image Journal) × KeepsBelow shares.end (old.now Shares) (image Shares) × KeepsBelow recipes.end (old.now Recipes) (image Recipes)

-- each image since is one
abbrev pub KeepFronts : State → State → Cloud → Cloud → Type 0
KeepFronts shares recipes old new = IsTrue old.told → shares.area ≡ Shares → recipes.area ≡ Recipes → LeavesOnly old new (HasFronts shares recipes old)

-- the journal is as it was
abbrev pub KeepsJournal : {T E : Type 0} → State → State → Cloud → Cloud → Result T E → Type 0
KeepsJournal shares recipes old new result = IsTrue old.told → shares.area ≡ Shares → recipes.area ≡ Recipes → OnOk result (new.now Journal ≡ old.now Journal)

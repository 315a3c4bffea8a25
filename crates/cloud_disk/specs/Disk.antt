-- What the disk's half of a server is, and that it stands for a list of commands.
use Rattle.std.specs.Prelude.{◌≡◌, ◌⊎◌, ℕ, ◌+◌, ◌≤◌, IsTrue, List, [], ◌∷◌, ◌++◌, length, Result, OnOk}
use Rattle.commit_journal.specs.CdEdges.area.Area.{Area}
use Rattle.commit_journal.specs.CdEdges.area.Area.TheVariants.{Journal, Shares, Recipes}
use Rattle.commit_journal.specs.CdEdges.Disk.{Areas, Image, Cloud, LeavesOnly, reads}
use Rattle.commit_journal.specs.CdEdges.Shelf.{stable, Stays}
use Rattle.cloud_areas.specs.ContainerLog.Laying.{Placed, placed, IsAt}
use Rattle.cloud_areas.specs.ContainerLog.Kept.{KeepsBelow}
use Rattle.cloud_areas.specs.ContainerLog.States as logs
use Rattle.commit_journal.specs.CdBase.place.Place.{Place}
use Rattle.commit_journal.specs.JournalStart.start.Header.{Header}
use Rattle.commit_journal.specs.JournalHalves.Halves.{half_limit}
use Rattle.commit_journal.specs.JournalHalves.Journals.{Where, with_body, IsEither}
use Rattle.commit_journal.specs.States as journals
use Rattle.cloud_areas.specs.RecordBody.Spelling.{Body, IsBody}
use Rattle.cloud_areas.specs.UserDedup.command.Command.{Command}
use Rattle.cloud_areas.specs.UserDedup.Dedup.{IsSound}
use Rattle.cloud_areas.specs.Placing.{region_start, greatest_end, shares_placed, shares_in, recipes_in, places_of}
use Rattle.cloud_areas.specs.Chains.{IsRecord, laid_shares, BothHaveRoom}
use Rattle.cloud_areas.specs.Standing.{Chain, where_of, region_in, IsChain, Holds, StandsFor}
use Rattle.cloud_disk.specs.Held.{IsFlushed}

-- the journal and the two logs
pub record Disk : Type 0 where
  pub journal : journals.JournalState
  pub shares : logs.State
  pub recipes : logs.State

-- where region 1, the last one, ends
abbrev pub regions_end : ℕ
regions_end = region_start 2

-- a log that ends where its area begins, with nothing staged and nothing kept
abbrev pub empty_log : Area → logs.State
empty_log area = record { area = area; limit = regions_end; end = 0; staged = []; keep = 4; kept = [] }

-- the log with this end, with nothing staged and nothing kept
abbrev pub ended_at : ℕ → logs.State → logs.State
ended_at end log = record log { end = end; staged = []; kept = [] }

-- nothing is staged
abbrev pub without_staged : Disk → Disk
without_staged disk = record disk { shares = logs.without_staged disk.shares; recipes = logs.without_staged disk.recipes }

-- ---- the disk stands for a list

-- The cloud is told, and all of its areas is on the disk. The journal was read to its end, within the limit of the header's rooms; its current
-- half has the chain, which holds the sound list.
pub record IsRead (header : Header) (list : List Command) (c : Chain) (journal : journals.JournalState) (cloud : Cloud) : Type 0 where
  pub told : IsTrue cloud.told
  pub sound : IsSound header.shape header.cloud.0 list
  pub on_disk : (area : Area) → cloud.now area ≡ stable (cloud.now area).read
  pub limit : journal.limit ≡ half_limit header.rooms
  pub ended : journals.IsJournalEnded journal (cloud.now Journal) (where_of c)
  pub is_chain : IsChain header (half_limit header.rooms) (cloud.now Journal).read c
  pub holds : Holds header (reads cloud.now) list c

-- The log is this area's and ends behind these places, in this region or behind it. Each container that it keeps is what the area has there.
pub record IsLogBehind (area : Area) (region : ℕ) (places : List Place) (log : logs.State) (now : Areas) : Type 0 where
  pub area_is : log.area ≡ area
  pub behind : greatest_end (region_start region) places ≤ log.end
  pub agrees : logs.Agrees log (now log.area).read

-- The journal was read and the chain holds the list; and both logs end behind all that the chain's records place.
pub record IsOn (header : Header) (list : List Command) (c : Chain) (disk : Disk) (cloud : Cloud) : Type 0 where
  pub read : IsRead header list c disk.journal cloud
  pub shares : IsLogBehind Shares (region_in c) (places_of (shares_in c.records)) disk.shares cloud.now
  pub recipes : IsLogBehind Recipes (region_in c) (recipes_in c.records) disk.recipes cloud.now

-- The journal was read and the chain holds the list; and both ends lie behind all that the chain's records place.
pub record AreEnds (header : Header) (list : List Command) (c : Chain) (disk : Disk) (shares_end recipes_end : ℕ) (cloud : Cloud) : Type 0 where
  pub read : IsRead header list c disk.journal cloud
  pub shares_area : disk.shares.area ≡ Shares
  pub recipes_area : disk.recipes.area ≡ Recipes
  pub shares : greatest_end (region_start (region_in c)) (places_of (shares_in c.records)) ≤ shares_end
  pub recipes : greatest_end (region_start (region_in c)) (recipes_in c.records) ≤ recipes_end

-- ---- one command more

-- Just these blobs are staged in the log, in this order, each for its place.
pub record Stages (log : logs.State) (blobs : List Placed) : Type 0 where
  pub strings : List (List ℕ)
  pub staged : logs.HasStaged log strings
  pub places : blobs ≡ placed log.end strings

-- the shares that a command's record places, each with the string that is held once the command is there
abbrev pub shares_laid : List Command → Command → Body → List Placed
shares_laid list command body = laid_shares (list ++ command ∷ []) (shares_placed body)

-- The disk stands for the list, and the list with the command is sound too. The bytes are the command's record behind the chain; just what it
-- places is staged, for its places, and both areas have room with it.
pub record IsPrepared (header : Header) (list : List Command) (c : Chain) (command : Command) (body : Body) (laid : List Placed) (disk : Disk) (bytes : List ℕ) (cloud : Cloud) : Type 0 where
  pub on : IsOn header list c disk cloud
  pub sound : IsSound header.shape header.cloud.0 (list ++ command ∷ [])
  pub is_record : IsRecord (region_in c) c.records list command body laid
  pub is_body : IsBody bytes body
  pub shares : Stages disk.shares (shares_laid list command body)
  pub recipes : Stages disk.recipes laid
  pub rooms : BothHaveRoom (region_in c) (list ++ command ∷ []) (c.records ++ body ∷ [])

-- the image stands for the list, or for the list with the command
abbrev pub StandsForEither : Header → List Command → Command → Image → Type 0
StandsForEither header list command image = StandsFor image header list ⊎ StandsFor image header (list ++ command ∷ [])

-- each image since does
abbrev pub KeepsOrAdds : Header → List Command → Command → Cloud → Cloud → Type 0
KeepsOrAdds header list command old new = LeavesOnly old new (StandsForEither header list command)

-- an image whose journal has the one chain or the other, and in which all lies below the ends of both logs that lay there at the last sync
abbrev pub IsGrown : Disk → Cloud → Where → Where → Image → Type 0
IsGrown disk old w next image = IsEither w next (image Journal) × KeepsBelow disk.shares.end (old.now Shares) (image Shares)
    × KeepsBelow disk.recipes.end (old.now Recipes) (image Recipes)

-- Whatever the chain that was read says: each image since has it, or it with this record, and keeps what lies below the ends of both logs.
abbrev pub KeepsDiskOrGrows : Disk → List ℕ → Cloud → Cloud → Type 0
KeepsDiskOrGrows disk body old new = IsTrue old.told → disk.shares.area ≡ Shares → disk.recipes.area ≡ Recipes
    → (w : Where) → journals.IsJournalEnded disk.journal (old.now Journal) w → LeavesOnly old new (IsGrown disk old w (with_body w body))

-- A record was added, whatever the records say: the chain that was read has it as its last one, and all of the journal is on the disk; and
-- what was staged in both logs stands behind their ends, on the disk too.
pub record IsGrownBy (old new : Disk) (body : List ℕ) (before after : Cloud) : Type 0 where
  pub chain : (w : Where) → journals.IsJournalEnded old.journal (before.now Journal) w → journals.IsJournalEnded new.journal (after.now Journal) (with_body w body)
  pub shares : IsFlushed old.shares (before.now Shares) (after.now Shares)
  pub recipes : IsFlushed old.recipes (before.now Recipes) (after.now Recipes)

-- Where the cloud is told, and the two logs are those of the shares and the recipes: after Ok the record was added.
abbrev pub HasDiskGrown : {T E : Type 0} → Disk → Disk → List ℕ → Cloud → Cloud → Result T E → Type 0
HasDiskGrown old new body before after result = IsTrue before.told → old.shares.area ≡ Shares
    → old.recipes.area ≡ Recipes
    → OnOk result (IsGrownBy old new body before after)

-- What lies in front of the ends of both logs lies there still.
pub record KeepsFronts (disk : Disk) (old new : Cloud) : Type 0 where
  pub shares : (b : Placed) → b.place + length b.blob ≤ disk.shares.end → IsAt (old.now Shares).read b → IsAt (new.now Shares).read b
  pub recipes : (b : Placed) → b.place + length b.blob ≤ disk.recipes.end → IsAt (old.now Recipes).read b → IsAt (new.now Recipes).read b

-- The logs end behind what was staged, and the gate lies behind one more record.
pub record EndsBehind (old new : Disk) (bytes : List ℕ) : Type 0 where
  pub shares : new.shares.end ≡ logs.staged_end old.shares
  pub recipes : new.recipes.end ≡ logs.staged_end old.recipes
  pub gate : new.journal.current.gate ≡ old.journal.current.gate + 5 + length bytes

-- The chain's start, the areas and the limits are what they were.
pub record SameRooms (old new : Disk) : Type 0 where
  pub start : new.journal.start ≡ old.journal.start
  pub limit : new.journal.limit ≡ old.journal.limit
  pub shares_area : new.shares.area ≡ old.shares.area
  pub shares_limit : new.shares.limit ≡ old.shares.limit
  pub recipes_area : new.recipes.area ≡ old.recipes.area
  pub recipes_limit : new.recipes.limit ≡ old.recipes.limit

-- ---- reads

-- A log through which was read: it is as it was but for the containers that it keeps, and agrees with its area.
pub record IsReadLog (old new : logs.State) (now : Areas) : Type 0 where
  pub same : new ≡ record old { kept = new.kept }
  pub agrees : logs.Agrees new (now new.area).read

-- The cloud was read through both logs.
pub record IsReadThrough (old new : Disk) (before after : Cloud) : Type 0 where
  pub stays : Stays before after
  pub told : after.told ≡ before.told
  pub journal : new.journal ≡ old.journal
  pub shares : IsReadLog old.shares new.shares after.now
  pub recipes : IsReadLog old.recipes new.recipes after.now

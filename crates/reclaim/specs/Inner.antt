-- What the steps of a reclaim do. No public clause cites this module.
use Rattle.std.specs.Prelude.{◌≡◌, ◌≢◌, ◌<◌, ℕ, Bool, List, [], ◌∷◌, map, All, Result, IsTrue, IfOk, OnOk, OnErr}
use Rattle.share_server.specs.CdEdges.area.Area.{Area}
use Rattle.share_server.specs.CdEdges.area.Area.TheVariants.{Journal, Shares, Recipes}
use Rattle.share_server.specs.CdEdges.Disk.{Cloud, Image, LeavesOnly, reads}
use Rattle.share_server.specs.CdEdges.Shelf.{IsCall, HasFailed, KeepsCounts}
use Rattle.compact_memories.specs.ContainerLog.Places.{place_of, end_after}
use Rattle.compact_memories.specs.UserDedup.command.Command.{Command}
use Rattle.compact_memories.specs.UserDedup.Compact.{compact}
use Rattle.compact_memories.specs.CloudAreas.Standing.{Chain, StandsFor}
use Rattle.share_server.specs.BlobCopy.Answers.{SomeRotten}
use Rattle.share_server.specs.BlobCopy.CompactMemories.Kept.{live_sum, commands_in}
use Rattle.share_server.specs.BlobCopy.CompactMemories.Moved.{IsMoved, other_region}
use Rattle.share_server.specs.BlobCopy.Copies.{Blob, share_blob, entry_blob, IsRight, HasCopied, KeepsBeside}
use Rattle.share_server.specs.BlobCopy.Copying.{AreAllCopied, StandsForKept, copies_start, shares_so_far, entries_so_far}
use Rattle.compact_memories.specs.declared.alive.Reclaimed.{Reclaimed}
use Rattle.share_server.specs.CloudMemory.Rooms.{memory_of}
use Rattle.share_server.specs.CloudStore.store.CloudStore.{CloudStore}
use Rattle.share_server.specs.CloudStore.Store.{IsOpen, ServesSome}
use Rattle.share_server.specs.Serving.{ServesAs, settled_with}
use Rattle.share_server.specs.declared.copies.Copies.{Copies}
use Rattle.share_server.specs.declared.copies.ReclaimErr.{ReclaimErr}
use Rattle.share_server.specs.Copies.{OnReclaimFault, IfRottenThere, IsDoneOrFault, MatchCopied, at_copies, AreCopiesLaid, KeepsCopies, KeepsAllBut, copied_so_far, no_copies}
use Rattle.blob_audit.specs.AuditBase.Whole.{tables_of}
use Rattle.blob_audit.specs.Reading.{AreStored, IsUnlike}
use Rattle.reclaim.specs.Reclaims.{KeepsLive, KeepsOtherRegion}
use Rattle.reclaim.specs.Sums.{IsSumOf}

-- ---- copies that read right

-- a blob at the least place behind the end
abbrev pub laid_blob : ℕ → Blob → Blob
laid_blob end b = record { named = b.named; at = place_of end b.len; len = b.len }

-- blobs one behind another
abbrev pub laid_blobs : ℕ → List Blob → List Blob
laid_blobs end [] = []
laid_blobs end (b ∷ bs) = laid_blob end b ∷ laid_blobs (end_after end b.len) bs

-- The copies so far read right.
pub record AreCopiesRight (store : CloudStore) (copies : Copies) (areas : Image) : Type 0 where
  pub shares : All (IsRight (areas Shares)) (laid_blobs (copies_start store) (map share_blob (shares_so_far store copies.copying)))
  pub entries : All (IsRight (areas Recipes)) (laid_blobs (copies_start store) (map entry_blob (entries_so_far store copies.copying)))

-- ---- what the parts do

-- what a step does
pub record StepsCopying (Same : Type 0) (old new : CloudStore) (from to : Copies) (before after : ℕ → Cloud) (faults_before faults_after : ℕ) (result : Result Bool ReclaimErr) : Type 0 where
  pub any_moment : (list : List Command) (c : Chain) → KeepsCopies list c old from (before old.header.cloud.0)
      → LeavesOnly (before old.header.cloud.0) (after old.header.cloud.0) (λ image. StandsFor image old.header list)
  pub copied : (list : List Command) (c : Chain) → KeepsCopies list c old from (before old.header.cloud.0)
      → OnReclaimFault result (Unit {0}) (KeepsCopies list c new to (after old.header.cloud.0))
  pub answers : (list : List Command) (c : Chain) → KeepsCopies list c old from (before old.header.cloud.0) → IsDoneOrFault result
  pub step : MatchCopied result (copied_so_far old from.copying < copied_so_far old to.copying) (AreAllCopied old to.copying × Same) (to.copying ≡ from.copying)
  pub laid : OnReclaimFault result (Unit {0}) (AreCopiesLaid new to)
  pub rotten : IsTrue (before old.header.cloud.0).told → IfRottenThere result (SomeRotten old.memory (reads (after old.header.cloud.0).now))
  pub beside : IsTrue (before old.header.cloud.0).told → OnReclaimFault result (Unit {0}) (KeepsBeside (at_copies old from) (before old.header.cloud.0) (after old.header.cloud.0))
  pub right : IsTrue (before old.header.cloud.0).told
      → OnOk result (HasCopied (at_copies old from) from.copying to.copying (reads (before old.header.cloud.0).now) (reads (after old.header.cloud.0).now))
  pub same : KeepsAllBut old new
  pub stage : OnReclaimFault result (¬ (IsOpen new)) (IsOpen new)
  pub call : IsCall before after old.header.cloud.0 faults_before faults_after
  pub counts : OnReclaimFault result (HasFailed (before old.header.cloud.0) (after old.header.cloud.0) faults_before faults_after)
      (KeepsCounts (before old.header.cloud.0) (after old.header.cloud.0) faults_before faults_after)

-- what all steps do
pub record CopiesAll (old new : CloudStore) (from to : Copies) (before after : ℕ → Cloud) (faults_before faults_after : ℕ) (result : Result (Unit {0}) ReclaimErr) : Type 0 where
  pub any_moment : (list : List Command) (c : Chain) → KeepsCopies list c old from (before old.header.cloud.0)
      → LeavesOnly (before old.header.cloud.0) (after old.header.cloud.0) (λ image. StandsFor image old.header list)
  pub copied : (list : List Command) (c : Chain) → KeepsCopies list c old from (before old.header.cloud.0)
      → OnOk result (KeepsCopies list c new to (after old.header.cloud.0))
  pub answers : (list : List Command) (c : Chain) → KeepsCopies list c old from (before old.header.cloud.0) → IsDoneOrFault result
  pub all : OnOk result (AreAllCopied new to.copying)
  pub right : IsTrue (before old.header.cloud.0).told → AreCopiesRight old from (reads (before old.header.cloud.0).now) → OnOk result (AreCopiesRight old to (reads (after old.header.cloud.0).now))
  pub laid : OnOk result (AreCopiesLaid new to)
  pub rotten : IsTrue (before old.header.cloud.0).told → IfRottenThere result (SomeRotten old.memory (reads (after old.header.cloud.0).now))
  pub spared : IsTrue (before old.header.cloud.0).told → OnReclaimFault result (Unit {0}) (KeepsOtherRegion (copies_start old) (before old.header.cloud.0) (after old.header.cloud.0))
  pub same : KeepsAllBut old new
  pub stage : OnReclaimFault result (¬ (IsOpen new)) (IsOpen new)
  pub call : IsCall before after old.header.cloud.0 faults_before faults_after
  pub counts : OnReclaimFault result (HasFailed (before old.header.cloud.0) (after old.header.cloud.0) faults_before faults_after)
      (KeepsCounts (before old.header.cloud.0) (after old.header.cloud.0) faults_before faults_after)

-- what the switch does
pub record Switches (old new : CloudStore) (from : Copies) (before after : ℕ → Cloud) (faults_before faults_after : ℕ) (result : Result (Unit {0}) ReclaimErr) : Type 0 where
  pub any_moment : (list : List Command) (c : Chain) → KeepsCopies list c old from (before old.header.cloud.0)
      → LeavesOnly (before old.header.cloud.0) (after old.header.cloud.0) (StandsForKept old.header list)
  pub switched : (list : List Command) (c : Chain) → KeepsCopies list c old from (before old.header.cloud.0)
      → OnOk result (ServesSome (compact old.header.shape list) new (after old.header.cloud.0))
  pub peer : (list : List Command) (c : Chain) → KeepsCopies list c old from (before old.header.cloud.0)
      → OnOk result (ServesAs new (after old.header.cloud.0) (settled_with (compact old.header.shape list) (after old.header.cloud.0)))
  pub answers : (list : List Command) (c : Chain) → KeepsCopies list c old from (before old.header.cloud.0) → IsDoneOrFault result
  pub moved : OnOk result (IsMoved (other_region old.region) old.memory (memory_of new.memory))
  pub number : OnOk result (new.commands ≡ commands_in (memory_of old.memory))
  pub region : OnOk result (new.region ≡ other_region old.region)
  pub never_rotten : IfRottenThere result (λ named found. ⊥)
  pub others : IsTrue (before old.header.cloud.0).told
      → OnOk result ((other : Area) → other ≢ Journal → (after old.header.cloud.0).now other ≡ (before old.header.cloud.0).now other)
  pub header : new.header ≡ old.header
  pub opened : OnOk result (IsOpen new)
  pub shut : OnErr result (¬ (IsOpen new))
  pub call : IsCall before after old.header.cloud.0 faults_before faults_after
  pub counts : OnReclaimFault result (HasFailed (before old.header.cloud.0) (after old.header.cloud.0) faults_before faults_after)
      (KeepsCounts (before old.header.cloud.0) (after old.header.cloud.0) faults_before faults_after)

-- what a reclaim does
pub record Reclaims (old new : CloudStore) (copies : Copies) (before after : ℕ → Cloud) (faults_before faults_after : ℕ) (result : Result Reclaimed ReclaimErr) : Type 0 where
  pub any_moment : (list : List Command) → ServesSome list old (before old.header.cloud.0)
      → LeavesOnly (before old.header.cloud.0) (after old.header.cloud.0) (StandsForKept old.header list)
  pub reclaimed : (list : List Command) → ServesSome list old (before old.header.cloud.0)
      → OnOk result (ServesAs new (after old.header.cloud.0) (settled_with (compact old.header.shape list) (after old.header.cloud.0)))
  pub kept : (list : List Command) → ServesSome list old (before old.header.cloud.0) → OnOk result (KeepsLive old.header.shape list (memory_of new.memory))
  pub answers : (list : List Command) → ServesSome list old (before old.header.cloud.0) → IsDoneOrFault result
  pub sums : (list : List Command) → ServesSome list old (before old.header.cloud.0) → IfOk result (IsSumOf old.header.shape list)
  pub sum : IfOk result (λ sum. sum ≡ live_sum old.memory)
  pub moved : OnOk result (IsMoved (other_region old.region) old.memory (memory_of new.memory))
  pub whole : IsTrue (before old.header.cloud.0).told → OnOk result (AreStored (reads (after old.header.cloud.0).now) (tables_of new.memory))
  pub number : OnOk result (new.commands ≡ commands_in (memory_of old.memory))
  pub region : OnOk result (new.region ≡ other_region old.region)
  pub rotten : IsTrue (before old.header.cloud.0).told → IfRottenThere result (IsUnlike (reads (after old.header.cloud.0).now) (tables_of old.memory))
  pub spared : IsTrue (before old.header.cloud.0).told → IfRottenThere result (λ named found. KeepsOtherRegion (copies_start old) (before old.header.cloud.0) (after old.header.cloud.0))
  pub given_up : OnErr result (IsOpen new → KeepsAllBut old new)
  pub opened : OnOk result (IsOpen new)
  pub still_open : IfRottenThere result (λ named found. IsOpen new)
  pub closed : OnReclaimFault result (¬ (IsOpen new)) (Unit {0})
  pub none : copies ≡ no_copies
  pub same : new.header ≡ old.header
  pub call : IsCall before after old.header.cloud.0 faults_before faults_after
  pub counts : OnReclaimFault result (HasFailed (before old.header.cloud.0) (after old.header.cloud.0) faults_before faults_after)
      (KeepsCounts (before old.header.cloud.0) (after old.header.cloud.0) faults_before faults_after)

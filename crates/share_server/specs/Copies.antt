-- A server that copies what is alive to the other region, and what its steps answer.
use Rattle.std.specs.Prelude.{◌≡◌, ℕ, ◌+◌, ◌<◌, Bool, true, false, List, [], length, IsTrue, Result, Ok, Err, OnOk, OnErr}
use Rattle.server_requests.specs.CdBase.ids.Fp.{Fp}
use Rattle.server_requests.specs.CdEdges.Disk.{Cloud, LeavesOnly, reads}
use Rattle.server_requests.specs.CdEdges.Shelf.{IsCall, HasFailed, KeepsCounts}
use Rattle.server_requests.specs.CommitJournal.Leaving.{OtherAreasStay}
use Rattle.server_requests.specs.UserDedup.command.Command.{Command}
use Rattle.server_requests.specs.UserDedup.Compact.{compact}
use Rattle.blob_copy.specs.CloudAreas.Standing.{Chain, StandsFor}
use Rattle.blob_copy.specs.declared.copying.CopyErr.{CopyErr}
use Rattle.blob_copy.specs.declared.copying.CopyErr.TheVariants as copy
use Rattle.blob_copy.specs.declared.copying.Copying.{Copying}
use Rattle.blob_copy.specs.Answers.{SomeRotten}
use Rattle.blob_copy.specs.Checkpoints.Laying.{KeepsOrSettles, HasSettled}
use Rattle.blob_copy.specs.Checkpoints.Records.{records_of}
use Rattle.blob_copy.specs.CompactMemories.Kept.{commands_in}
use Rattle.blob_copy.specs.CompactMemories.Moved.{IsMoved, other_region}
use Rattle.blob_copy.specs.Copies.{HasCopied, KeepsBeside}
use Rattle.blob_copy.specs.Copying.{IsCopyLaid, IsCopying, AreAllCopied, StandsForKept, shares_so_far, entries_so_far}
use Rattle.server_requests.specs.CloudStore.store.CloudStore.{CloudStore}
use Rattle.blob_copy.specs.CloudOpening.CloudMemory.Rooms.{memory_of}
use Rattle.server_requests.specs.CloudStore.Store.{IsOpen, IsSettled, Serves, ServesSome}
use Rattle.server_requests.specs.ServerCommands.Executing.{IsStoreReady}
use Rattle.share_server.specs.declared.copies.Copies.{Copies}
use Rattle.share_server.specs.declared.copies.ReclaimErr.{ReclaimErr}
use Rattle.share_server.specs.declared.copies.ReclaimErr.TheVariants as why

-- ---- answers

-- why a copy doesn't go on, as the server says it
abbrev pub reclaim_error : CopyErr → ReclaimErr
reclaim_error copy.Fault = why.Fault
reclaim_error (copy.Rotten named found) = why.Rotten named found
reclaim_error copy.Long = why.NoMemory

-- one fact where a device failed, and another for every other answer
abbrev pub OnReclaimFault : {T : Type 0} → Result T ReclaimErr → (failed other : Type 0) → Type 0
OnReclaimFault (Ok v) failed other = other
OnReclaimFault (Err why.Fault) failed other = failed
OnReclaimFault (Err (why.Rotten named found)) failed other = other
OnReclaimFault (Err why.NoMemory) failed other = other

abbrev pub IfRottenThere : {T : Type 0} → Result T ReclaimErr → (Fp → Fp → Type 0) → Type 0
IfRottenThere (Ok v) P = Unit {0}
IfRottenThere (Err why.Fault) P = Unit {0}
IfRottenThere (Err (why.Rotten named found)) P = P named found
IfRottenThere (Err why.NoMemory) P = Unit {0}

-- nothing but a device that failed was in the way
abbrev pub IsDoneOrFault : {T : Type 0} → Result T ReclaimErr → Type 0
IsDoneOrFault (Ok v) = Unit {0}
IsDoneOrFault (Err why.Fault) = Unit {0}
IsDoneOrFault (Err (why.Rotten named found)) = ⊥
IsDoneOrFault (Err why.NoMemory) = ⊥

-- facts for a step: that more was copied, that nothing was left, and that it was given up; none where a device failed
abbrev pub MatchCopied : Result Bool ReclaimErr → (more done ended : Type 0) → Type 0
MatchCopied (Ok true) more done ended = more
MatchCopied (Ok false) more done ended = done
MatchCopied (Err why.Fault) more done ended = Unit {0}
MatchCopied (Err (why.Rotten named found)) more done ended = ended
MatchCopied (Err why.NoMemory) more done ended = ended

-- ---- a server that copies

-- none at all
abbrev pub no_copies : Copies
no_copies = record { copying = record { place_slot = 0; file_slot = 0 }; shares_end = 0; recipes_end = 0 }

-- the store with both logs where the copies end
abbrev pub at_copies : CloudStore → Copies → CloudStore
at_copies store copies = record store {
  disk = record store.disk {
    shares = record store.disk.shares { end = copies.shares_end; staged = []; kept = [] };
    recipes = record store.disk.recipes { end = copies.recipes_end; staged = []; kept = [] };
  };
}

-- The copies end where they should, by what is alive in the slots that were gone over.
abbrev pub AreCopiesLaid : CloudStore → Copies → Type 0
AreCopiesLaid store copies = IsCopyLaid (at_copies store copies) copies.copying

-- The store serves the list, and the copies so far lie in the other region.
pub record KeepsCopies (list : List Command) (c : Chain) (store : CloudStore) (copies : Copies) (cloud : Cloud) : Type 0 where
  pub serves : Serves list c store cloud
  pub copied : IsCopying list c (at_copies store copies) copies.copying cloud

-- how many blobs were copied
abbrev pub copied_so_far : CloudStore → Copying → ℕ
copied_so_far store copying = length (shares_so_far store copying) + length (entries_so_far store copying)

-- All but the disk stays.
abbrev pub KeepsAllBut : CloudStore → CloudStore → Type 0
KeepsAllBut old new = new ≡ record old { disk = new.disk }

-- A step of a store whose logs are where the copies end.
pub record HasGoneOn (Same : Type 0) (old : CloudStore) (copying : Copying) (new : CloudStore) (copies : Copies) (before after : ℕ → Cloud) (faults_before faults_after : ℕ) (result : Result Bool ReclaimErr) : Type 0 where
  pub any_moment : (list : List Command) (c : Chain) → IsCopying list c old copying (before old.header.cloud.0)
      → LeavesOnly (before old.header.cloud.0) (after old.header.cloud.0) (λ image. StandsFor image old.header list)
  pub copied : (list : List Command) (c : Chain) → IsCopying list c old copying (before old.header.cloud.0)
      → OnReclaimFault result (Unit {0}) (KeepsCopies list c new copies (after old.header.cloud.0))
  pub answers : (list : List Command) (c : Chain) → IsCopying list c old copying (before old.header.cloud.0) → IsDoneOrFault result
  pub step : MatchCopied result (copied_so_far old copying < copied_so_far old copies.copying) (AreAllCopied old copies.copying × Same) (copies.copying ≡ copying)
  pub laid : OnReclaimFault result (Unit {0}) (AreCopiesLaid new copies)
  pub right : IsTrue (before old.header.cloud.0).told → OnOk result (HasCopied old copying copies.copying (reads (before old.header.cloud.0).now) (reads (after old.header.cloud.0).now))
  pub rotten : IsTrue (before old.header.cloud.0).told → IfRottenThere result (SomeRotten old.memory (reads (after old.header.cloud.0).now))
  pub beside : IsTrue (before old.header.cloud.0).told → OnReclaimFault result (Unit {0}) (KeepsBeside old (before old.header.cloud.0) (after old.header.cloud.0))
  pub same : KeepsAllBut old new
  pub settled : IsSettled new
  pub ready : OnReclaimFault result (¬ (IsOpen new)) (IsStoreReady new)
  pub call : IsCall before after old.header.cloud.0 faults_before faults_after
  pub counts : OnReclaimFault result (HasFailed (before old.header.cloud.0) (after old.header.cloud.0) faults_before faults_after)
      (KeepsCounts (before old.header.cloud.0) (after old.header.cloud.0) faults_before faults_after)

-- Whatever the chain that was read says: each image since has it, or the checkpoint of what is kept in its place.
abbrev pub KeepsOrSwitches : CloudStore → CloudStore → Cloud → Cloud → Type 0
KeepsOrSwitches old new before after =
    KeepsOrSettles old.disk.journal old.header (commands_in (memory_of old.memory)) (length (records_of new.memory)) (other_region old.region) (records_of new.memory) before after

-- After Ok that checkpoint is there.
abbrev pub HasSwitched : {T E : Type 0} → CloudStore → CloudStore → Cloud → Cloud → Result T E → Type 0
HasSwitched old new before after result =
    HasSettled old.disk.journal new.disk.journal old.header (commands_in (memory_of old.memory)) (length (records_of new.memory)) (other_region old.region) (records_of new.memory) before after result

-- The switch of a store whose logs are where the copies end.
pub record SwitchesOver (old : CloudStore) (copying : Copying) (new : CloudStore) (before after : ℕ → Cloud) (faults_before faults_after : ℕ) (result : Result (Unit {0}) ReclaimErr) : Type 0 where
  pub any_moment : (list : List Command) (c : Chain) → IsCopying list c old copying (before old.header.cloud.0)
      → LeavesOnly (before old.header.cloud.0) (after old.header.cloud.0) (StandsForKept old.header list)
  pub switched : (list : List Command) (c : Chain) → IsCopying list c old copying (before old.header.cloud.0)
      → OnOk result (ServesSome (compact old.header.shape list) new (after old.header.cloud.0))
  pub answers : (list : List Command) (c : Chain) → IsCopying list c old copying (before old.header.cloud.0) → IsDoneOrFault result
  pub moved : OnOk result (IsMoved (other_region old.region) old.memory (memory_of new.memory))
  pub number : OnOk result (new.commands ≡ commands_in (memory_of old.memory))
  pub region : OnOk result (new.region ≡ other_region old.region)
  pub never_rotten : IfRottenThere result (λ named found. ⊥)
  pub chain : KeepsOrSwitches old new (before old.header.cloud.0) (after old.header.cloud.0)
  pub taken : HasSwitched old new (before old.header.cloud.0) (after old.header.cloud.0) result
  pub others : OtherAreasStay (before old.header.cloud.0) (after old.header.cloud.0) result
  pub header : new.header ≡ old.header
  pub settled : IsSettled new
  pub ready : OnOk result (IsStoreReady new)
  pub shut : OnErr result (¬ (IsOpen new))
  pub call : IsCall before after old.header.cloud.0 faults_before faults_after
  pub counts : OnReclaimFault result (HasFailed (before old.header.cloud.0) (after old.header.cloud.0) faults_before faults_after)
      (KeepsCounts (before old.header.cloud.0) (after old.header.cloud.0) faults_before faults_after)

-- One command more in an open store: when it may be added, and what comes of it.
use Rattle.std.specs.Prelude.{◌≡◌, ◌≢◌, ◌⊎◌, ℕ, ◌+◌, ◌<◌, ◌≤◌, List, [], ◌∷◌, ◌++◌, length, find, unwrap_or, IsTrue, is_some, Some, Result, Ok, Err, OnOk, if◌then◌else◌}
use Rattle.std.specs.FinMap.{FinMap, get}
use Rattle.recipe.specs.CdBase.Order.{fp_cmp}
use Rattle.recipe.specs.CdBase.place.Place.{Place}
use Rattle.recipe.specs.CdBase.ids.Fp.{Fp}
use Rattle.recipe.specs.CdBase.ids.Tag.{Tag}
use Rattle.recipe.specs.CdBase.ids.UserId.{UserId}
use Rattle.recipe.specs.CdBase.ids.Version.{Version}
use Rattle.checkpoints.specs.CdEdges.area.Area.{Area}
use Rattle.checkpoints.specs.CdEdges.area.Area.TheVariants.{Journal, Shares, Recipes}
use Rattle.checkpoints.specs.CdEdges.Disk.{Cloud, Image, LeavesOnly, IsAtArea}
use Rattle.checkpoints.specs.ContainerLog.Laying.{Placed}
use Rattle.checkpoints.specs.ContainerLog.Places.{place_of}
use Rattle.checkpoints.specs.ContainerLog.Kept.{KeepsBelow}
use Rattle.checkpoints.specs.ContainerLog.States.{HasStaged, staged_end}
use Rattle.checkpoints.specs.JournalHalves.Journals.{Where, with_body, IsEither}
use Rattle.checkpoints.specs.CommitJournal.States.{IsJournalEnded}
use Rattle.checkpoints.specs.CommitJournal.journal.Stage.{Stage}
use Rattle.checkpoints.specs.CommitJournal.journal.Stage.TheVariants.{AtEnd, Shut}
use Rattle.messages.specs.MessageFields.Shares.{share_limit}
use Rattle.checkpoints.specs.RecordBody.body.CommitBody.{CommitBody}
use Rattle.checkpoints.specs.RecordBody.Spelling as bodies
use Rattle.checkpoints.specs.RecordBody.Spelling.{Body, body_bytes}
use Rattle.checkpoints.specs.UserDedup.file_list.FileEntry.{FileEntry}
use Rattle.checkpoints.specs.UserDedup.Cloud.{fingerprint, has_fingerprint}
use Rattle.checkpoints.specs.UserDedup.Pages.{entry_at}
use Rattle.checkpoints.specs.UserDedup.Requests.{fps_of}
use Rattle.checkpoints.specs.UserDedup.command.Command.{Command}
use Rattle.checkpoints.specs.UserDedup.command.Command.TheVariants as commands
use Rattle.checkpoints.specs.UserDedup.Dedup.{IsSound}
use Rattle.checkpoints.specs.UserDedup.Cloud.{user_view}
use Rattle.checkpoints.specs.CloudAreas.Adding.{with_record}
use Rattle.checkpoints.specs.CloudAreas.Standing.{Chain}
use Rattle.checkpoints.specs.CloudDisk.Disk.{Disk, IsOn, KeepsOrAdds, Stages, shares_laid, without_staged}
use Rattle.checkpoints.specs.CloudDisk.Held.{IsFlushed}
use Rattle.checkpoints.specs.CloudMemory.rooms.Full.{Full}
use Rattle.checkpoints.specs.CloudMemory.rooms.New.{New}
use Rattle.checkpoints.specs.CloudMemory.News.{AreOf}
use Rattle.checkpoints.specs.CloudMemory.Rooms.{memory_of}
use Rattle.checkpoints.specs.CloudMemory.Steps.{parts_of}
use Rattle.cloud_store.specs.declared.store.CloudStore.{CloudStore}
use Rattle.cloud_store.specs.declared.store.Unadded.{Unadded}
use Rattle.cloud_store.specs.declared.store.Unadded.TheVariants as why
use Rattle.checkpoints.specs.Laying.{records_len, checkpoint_behind}
use Rattle.checkpoints.specs.Settling.{KeepsOthers}
use Rattle.checkpoints.specs.Records.{records_of}
use Rattle.checkpoints.specs.Known.{checkpoint_in}
use Rattle.cloud_store.specs.Store.{Serves, chain_with_room}

-- ---- answers

-- the command was added
abbrev pub OnAdded : Result (Unit {0}) Unadded → Type 0 → Type 0
OnAdded (Ok v) P = P
OnAdded (Err e) P = Unit {0}

-- a room was full, and else another fact
abbrev pub MatchFull : Result (Unit {0}) Unadded → Type 0 → (Full → Type 0) → Type 0
MatchFull (Ok v) P Q = P
MatchFull (Err (why.Full full)) P Q = Q full
MatchFull (Err why.Long) P Q = P
MatchFull (Err why.Failed) P Q = P

-- a device failed, and else another fact
abbrev pub MatchFailed : Result (Unit {0}) Unadded → Type 0 → Type 0 → Type 0
MatchFailed (Ok v) P Q = P
MatchFailed (Err (why.Full full)) P Q = P
MatchFailed (Err why.Long) P Q = P
MatchFailed (Err why.Failed) P Q = Q

-- There was room for the record.
abbrev pub NotLong : Result (Unit {0}) Unadded → Type 0
NotLong (Ok v) = Unit {0}
NotLong (Err (why.Full full)) = Unit {0}
NotLong (Err why.Long) = ⊥
NotLong (Err why.Failed) = Unit {0}

-- A fact where there was no room for the record.
abbrev pub WhenLong : Result (Unit {0}) Unadded → Type 0 → Type 0
WhenLong (Ok v) P = Unit {0}
WhenLong (Err (why.Full full)) P = Unit {0}
WhenLong (Err why.Long) P = P
WhenLong (Err why.Failed) P = Unit {0}

-- A record of so many bytes doesn't fit even behind a checkpoint of the memory.
abbrev pub IsTooLong : CloudStore → ℕ → Type 0
IsTooLong s len = s.disk.journal.limit < 63 + records_len (records_of s.memory) + (len + 5)

-- the journal's stage behind it
abbrev pub stage_after : Result (Unit {0}) Unadded → Stage
stage_after (Ok v) = AtEnd
stage_after (Err (why.Full full)) = AtEnd
stage_after (Err why.Long) = AtEnd
stage_after (Err why.Failed) = Shut

-- nothing is staged
pub record NoneStaged (s : CloudStore) : Type 0 where
  pub shares : HasStaged s.disk.shares []
  pub recipes : HasStaged s.disk.recipes []

-- the store with nothing staged
abbrev pub unstaged : CloudStore → CloudStore
unstaged s = record s { disk = without_staged s.disk }

-- Nothing was added: the memory is as it was, and so are both logs, but that nothing is staged.
pub record Unmoved (old new : CloudStore) : Type 0 where
  pub memory : new.memory ≡ old.memory
  pub shares : new.disk.shares ≡ (without_staged old.disk).shares
  pub recipes : new.disk.recipes ≡ (without_staged old.disk).recipes

-- Both logs end behind what was staged.
pub record EndBehind (old new : CloudStore) : Type 0 where
  pub shares : new.disk.shares.end ≡ staged_end old.disk.shares
  pub recipes : new.disk.recipes.end ≡ staged_end old.disk.recipes

-- ---- whatever the records say

-- the chain of a checkpoint of the store's memory, behind another chain
abbrev pub summed : CloudStore → Where → Where
summed s w = checkpoint_behind w s.header s.commands (length (records_of s.memory)) s.region (records_of s.memory)

-- Whatever the chain that was read says: each image since has it, or the memory's checkpoint in its place, and all other areas as they might
-- have been left.
abbrev pub KeepsOrSums : CloudStore → Cloud → Cloud → Type 0
KeepsOrSums s old new = IsTrue old.told → (w : Where) → IsJournalEnded s.disk.journal (old.now Journal) w
    → LeavesOnly old new (IsAtArea old.now Journal (IsEither w (summed s w)))

-- After Ok the chain that was read is there, or the checkpoint's, and no other area has changed.
abbrev pub HasRoomMade : {T E : Type 0} → CloudStore → CloudStore → Cloud → Cloud → Result T E → Type 0
HasRoomMade before after old new result = IsTrue old.told → (w : Where) → IsJournalEnded before.disk.journal (old.now Journal) w
    → OnOk result ((IsJournalEnded after.disk.journal (new.now Journal) w ⊎ IsJournalEnded after.disk.journal (new.now Journal) (summed before w))
    × ((other : Area) → other ≢ Journal → new.now other ≡ old.now other))

-- the journal has the chain that was read, or the memory's checkpoint in its place; or one of the two with this record
abbrev pub IsOneOf : CloudStore → Where → List ℕ → List ℕ → Type 0
IsOneOf s w body journal = IsEither w (summed s w) journal ⊎ IsEither (with_body w body) (with_body (summed s w) body) journal

-- an image with one of these, which keeps what lay below the ends of both logs at their areas' last sync
abbrev pub IsLeftOf : CloudStore → Cloud → Where → List ℕ → Image → Type 0
IsLeftOf s old w body image = IsOneOf s w body (image Journal) × KeepsBelow s.disk.shares.end (old.now Shares) (image Shares)
    × KeepsBelow s.disk.recipes.end (old.now Recipes) (image Recipes)

-- Whatever the chain that was read says: each image since is one.
abbrev pub KeepsOrGrows : CloudStore → List ℕ → Cloud → Cloud → Type 0
KeepsOrGrows s body old new = IsTrue old.told → (w : Where) → IsJournalEnded s.disk.journal (old.now Journal) w → LeavesOnly old new (IsLeftOf s old w body)

-- The record was added to this chain, or to the memory's checkpoint in its place, as the last one, and all of the journal is on the disk. What
-- was staged in both logs stands behind their ends, on the disk too; what lay in front of the ends lies there still.
pub record IsGrownFrom (w : Where) (old new : CloudStore) (body : List ℕ) (before after : Cloud) : Type 0 where
  pub chain : IsJournalEnded new.disk.journal (after.now Journal) (with_body w body) ⊎ IsJournalEnded new.disk.journal (after.now Journal) (with_body (summed old w) body)
  pub shares : IsFlushed old.disk.shares (before.now Shares) (after.now Shares)
  pub recipes : IsFlushed old.disk.recipes (before.now Recipes) (after.now Recipes)

-- Whatever the chain that was read says: the record was added to it.
abbrev pub HasGrown : CloudStore → CloudStore → List ℕ → Cloud → Cloud → Type 0
HasGrown old new body before after = IsTrue before.told → (w : Where) → IsJournalEnded old.disk.journal (before.now Journal) w
    → IsGrownFrom w old new body before after

-- ---- a Put

-- Each share has from 1 to 8,208 bytes.
abbrev pub IsShareNew : New → Type 0
IsShareNew n = (1 ≤ n.len) × (n.len ≤ share_limit)

-- A share's fingerprint has 32 bytes.
abbrev pub HasFp : New → Type 0
HasFp n = length n.fp.0 ≡ 32

-- the record of a Put of these shares
abbrev pub put_record : CloudStore → UserId → List New → Body
put_record s user news = bodies.Put user (parts_of user (memory_of s.memory) news)

-- the strings that have no place yet, in their order
abbrev pub unplaced : FinMap fp_cmp Place → List (List ℕ) → List (List ℕ)
unplaced places [] = []
unplaced places (string ∷ strings) = if is_some (get places (fingerprint string).0) then unplaced places strings else string ∷ unplaced places strings

-- the place that a record gives to a fingerprint, with the first of these strings that has it
abbrev pub share_at : List (List ℕ) → Fp × Place → Placed
share_at strings x = record { place = x.1.at; blob = unwrap_or (find (has_fingerprint x.0) strings) [] }

-- The Put of these strings is to be added: the store serves the list, which is sound with it too; these are the strings' fingerprints and
-- lengths; and just those that get a place are staged, in their order.
pub record IsPut (list : List Command) (c : Chain) (s : CloudStore) (user : UserId) (news : List New) (strings : List (List ℕ)) (cloud : Cloud) : Type 0 where
  pub serves : Serves list c s cloud
  pub sound : IsSound s.header.shape s.header.cloud.0 (list ++ commands.Put user strings ∷ [])
  pub are_of : AreOf news strings
  pub shares : Stages s.disk.shares (shares_laid list (commands.Put user strings) (put_record s user news))
  pub recipes : Stages s.disk.recipes []

-- ---- a Commit

-- the record of a Commit of a recipe with this fingerprint and so many bytes
abbrev pub commit_body : CloudStore → UserId → Tag → Version → Fp → ℕ → CommitBody
commit_body s user tag version fp len = record { user = user; tag = tag; version = version; at = place_of s.memory.recipes_end len; len = len; fp = fp }

-- The Commit of this recipe is to be added: the store serves the list, which is sound with it too; the recipe has this fingerprint, so many
-- bytes and these items; and just it is staged.
pub record IsCommit (list : List Command) (c : Chain) (s : CloudStore) (user : UserId) (tag : Tag) (version : Version) (fp : Fp) (len : ℕ) (names : List Fp) (recipe : List ℕ) (cloud : Cloud) : Type 0 where
  pub serves : Serves list c s cloud
  pub sound : IsSound s.header.shape s.header.cloud.0 (list ++ commands.Commit user tag version recipe ∷ [])
  pub fp_is : fingerprint recipe ≡ fp
  pub len_is : length recipe ≡ len
  pub names_are : fps_of s.header.shape recipe ≡ names
  pub shares : Stages s.disk.shares []
  pub recipes : Stages s.disk.recipes (record { place = place_of s.memory.recipes_end len; blob = recipe } ∷ [])

-- ---- a Delete

-- The Delete of the entry with this recipe is to be added: the store serves the list, which is sound with it too and has the entry; and
-- nothing is staged.
pub record IsDelete (list : List Command) (c : Chain) (s : CloudStore) (user : UserId) (tag : Tag) (version : Version) (entry : FileEntry) (recipe : List ℕ) (cloud : Cloud) : Type 0 where
  pub serves : Serves list c s cloud
  pub sound : IsSound s.header.shape s.header.cloud.0 (list ++ commands.Delete user tag version ∷ [])
  pub there : entry_at (user_view s.header.shape list user).files (tag, version) ≡ Some entry
  pub recipe_is : entry.recipe ≡ recipe
  pub shares : Stages s.disk.shares []
  pub recipes : Stages s.disk.recipes []

-- ---- what is left

-- The store serves the list with the command: by the chain that has room for the record, and with it.
abbrev pub ServesMore : List Command → Chain → CloudStore → Command → Body → List Placed → CloudStore → Cloud → Type 0
ServesMore list c old command body laid new cloud =
    Serves (list ++ command ∷ []) (with_record (chain_with_room old list c (length (body_bytes body))) body laid) new cloud

-- There was a moment at which the disk stood for the list by the checkpoint of the memory: until then no area but the journal had changed, and
-- since then each image stands for the list or for the list with the command.
pub record MadeFirst (list : List Command) (c : Chain) (old : CloudStore) (command : Command) (before after : Cloud) : Type 0 where
  pub at : Cloud
  pub disk : Disk
  pub on : IsOn old.header list (checkpoint_in old.header list c old.commands old.region old.memory) disk at
  pub until : KeepsOthers before at
  pub since : KeepsOrAdds old.header list command at after

-- What a step makes of a store and its cloud, in one record. No public clause cites this module.
use Rattle.std.specs.Prelude.{◌≡◌, ◌+◌, ◌<◌, ◌≤◌, Bool, IsTrue, List, length, Result}
use Rattle.fresh_checkpoints.specs.CdEdges.Disk.{Cloud, LeavesOnly, reads}
use Rattle.fresh_checkpoints.specs.CdEdges.Shelf.{Stays}
use Rattle.compact_lists.specs.UserDedup.command.Command.{Command}
use Rattle.fresh_checkpoints.specs.CloudAreas.Standing.{Chain}
use Rattle.fresh_checkpoints.specs.Checkpoints.Settling.{KeepsList}
use Rattle.cloud_store.specs.declared.store.CloudStore.{CloudStore}
use Rattle.cloud_store.specs.Store.{IsSettled}
use Rattle.blob_copy.specs.Answers.{MatchStep, MatchFault, IfCopyRotten, NeverLong, NeverWrong, SomeRotten, stage_after}
use Rattle.blob_copy.specs.Copies.{HasCopied, KeepsBeside, IsBeside}
use Rattle.blob_copy.specs.Copying.{IsCopyLaid, IsCopying, shares_so_far, entries_so_far}
use Rattle.blob_copy.specs.declared.copying.CopyErr.{CopyErr}
use Rattle.blob_copy.specs.declared.copying.Copying.{Copying}

pub record IsStep (store after : CloudStore) (from to : Copying) (old new : Cloud) (result : Result Bool CopyErr) : Type 0 where
  -- for each list that the store knows
  pub any_moment : (list : List Command) (c : Chain) → IsCopying list c store from old → KeepsList store.header list old new
  pub copying : (list : List Command) (c : Chain) → IsCopying list c store from old → MatchFault result (Unit {0}) (IsCopying list c after to new)
  pub never_wrong : (list : List Command) (c : Chain) → IsCopying list c store from old → NeverWrong result
  -- whatever is known of the cloud
  pub copied : IsTrue old.told → MatchStep result (HasCopied store from to (reads old.now) (reads new.now)) (Unit {0}) (Unit {0}) (Unit {0})
  pub beside : IsTrue old.told → MatchFault result (Unit {0}) (KeepsBeside store old new)
  pub images : IsTrue old.told → LeavesOnly old new (IsBeside store old)
  pub fits : NeverLong result
  pub kept : IfCopyRotten result (λ named found. after ≡ store)
  pub stays : IfCopyRotten result (λ named found. Stays old new)
  pub further : MatchStep result
      (length (shares_so_far store from) + length (entries_so_far store from) < length (shares_so_far store to) + length (entries_so_far store to))
      (Unit {0}) (to ≡ from) (to ≡ from)
  pub slots : (from.place_slot ≤ to.place_slot) × (from.file_slot ≤ to.file_slot)
  pub laid : MatchFault result (Unit {0}) (IsCopyLaid after to)
  pub rotten : IsTrue old.told → IfCopyRotten result (SomeRotten store.memory (reads old.now))
  pub same : after ≡ record store { disk = after.disk }
  pub settled : IsSettled after
  pub stage : after.disk.journal.stage ≡ stage_after result

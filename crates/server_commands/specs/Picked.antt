-- Which of a Put's shares are new to the user, and which of them are staged.
use Rattle.std.specs.Prelude.{◌≡◌, ℕ, ◌≤◌, List, length, map, All}
use Rattle.server_reads.specs.CdBase.ids.Fp.{Fp}
use Rattle.server_reads.specs.CdBase.ids.UserId.{UserId}
use Rattle.server_reads.specs.ContainerLog.States.{HasStaged}
use Rattle.server_reads.specs.MessageFields.Shares.{IsShare}
use Rattle.server_reads.specs.UserDedup.command.Command.{Command}
use Rattle.server_reads.specs.UserDedup.Cloud.{user_view}
use Rattle.server_reads.specs.UserDedup.Owning.{new_strings}
use Rattle.server_reads.specs.CloudMemory.rooms.New.{New}
use Rattle.server_reads.specs.CloudMemory.Memory.{Remembers}
use Rattle.server_reads.specs.CloudMemory.News.{AreOf, AreNewTo}
use Rattle.server_reads.specs.CloudMemory.Rooms.{memory_of}
use Rattle.cloud_store.specs.declared.store.CloudStore.{CloudStore}
use Rattle.cloud_store.specs.Adding.{unplaced}
use Rattle.server_commands.specs.Entering.{new_of, unowned}

abbrev pub fps_of : List New → List Fp
fps_of news = map (λ (n : New). n.fp) news

-- the store with these bytes staged in the log of the shares
abbrev pub with_shares : CloudStore → List ℕ → CloudStore
with_shares s bytes = record s { disk = record s.disk { shares = record s.disk.shares { staged = bytes } } }

-- Of the shares that were sent those that the memory doesn't give to the user, the first of each fingerprint. For a list that the memory
-- has they are those that are new to the user. Of the store only what is staged has changed: those that have no place yet, in their order.
pub record Picked (old new : CloudStore) (user : UserId) (sent : List (List ℕ)) (news : List New) : Type 0 where
  pub strings : List (List ℕ)
  pub range : All IsShare strings
  pub few : length strings ≤ length sent
  pub lens : news ≡ map new_of strings
  pub are_of : AreOf news strings
  pub fresh : AreNewTo (memory_of old.memory) user news
  pub by_memory : strings ≡ unowned (memory_of old.memory) user sent
  pub by_list : (list : List Command) → Remembers old.header.shape list (memory_of old.memory) → strings ≡ new_strings (user_view old.header.shape list user).own sent
  pub staged : HasStaged new.disk.shares (unplaced (memory_of old.memory).places strings)
  pub same : new ≡ with_shares old new.disk.shares.staged

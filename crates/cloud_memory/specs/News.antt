-- Shares that are new to their user.
use Rattle.std.specs.Prelude.{◌≡◌, ℕ, List, map, slice_get, Some, None, All}
use Rattle.std.specs.FinMap.{get}
use Rattle.spent_table.specs.CdBase.ids.Fp.{Fp}
use Rattle.spent_table.specs.CdBase.ids.UserId.{UserId}
use Rattle.cloud_areas.specs.ContainerLog.Laying.{lengths}
use Rattle.share_index.specs.Order.{owner_of}
use Rattle.cloud_areas.specs.UserDedup.Cloud.{fingerprint}
use Rattle.cloud_areas.specs.UserDedup.Dedup.{FullRoom}
use Rattle.cloud_memory.specs.declared.rooms.Full.{Full}
use Rattle.cloud_memory.specs.declared.rooms.New.{New}
use Rattle.cloud_memory.specs.Memory.{Memory}

-- an answer as the room that it names
abbrev pub seen : Full → FullRoom
seen full = record { room = full.room; used = full.used; need = full.need; limit = full.limit }

-- no two shares have one fingerprint
abbrev pub AreFingerprintsApart : List New → Type 0
AreFingerprintsApart news = (i j : ℕ) (fp : Fp) → slice_get (map (λ (n : New). n.fp) news) i ≡ Some fp → slice_get (map (λ (n : New). n.fp) news) j ≡ Some fp → i ≡ j

-- These are the fingerprints and the lengths of the strings, in order.
pub record AreOf (news : List New) (strings : List (List ℕ)) : Type 0 where
  pub fps : map (λ (n : New). n.fp) news ≡ map fingerprint strings
  pub lens : map (λ (n : New). n.len) news ≡ lengths strings

-- None of these shares is the user's, and no two have one fingerprint.
pub record AreNewTo (m : Memory) (user : UserId) (news : List New) : Type 0 where
  pub new : All (λ (n : New). get m.owners (owner_of user.0 n.fp.0) ≡ None) news
  pub apart : AreFingerprintsApart news

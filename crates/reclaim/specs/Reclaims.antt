-- What a reclaim keeps of a list, and what it spares of a cloud.
use Rattle.std.specs.Prelude.{◌≡◌, ◌↔◌, ◌⊎◌, ◌+◌, ◌≤◌, ℕ, List, length, IsSome, Some}
use Rattle.std.specs.List.{Contains}
use Rattle.std.specs.FinMap.{get}
use Rattle.share_server.specs.CdBase.ids.Fp.{Fp}
use Rattle.share_server.specs.CdBase.ids.Tag.{Tag}
use Rattle.share_server.specs.CdBase.ids.UserId.{UserId}
use Rattle.share_server.specs.CdBase.ids.Version.{Version}
use Rattle.share_server.specs.CdBase.place.Place.{Place}
use Rattle.share_server.specs.CdBase.shape.Shape.{Shape}
use Rattle.share_server.specs.CdEdges.area.Area.TheVariants.{Journal, Shares, Recipes}
use Rattle.share_server.specs.CdEdges.Disk.{Cloud}
use Rattle.compact_memories.specs.CloudAreas.Placing.{region_len}
use Rattle.compact_memories.specs.ContainerLog.Laying.{Placed, IsAt}
use Rattle.compact_memories.specs.FileIndex.key.Entry.{Entry}
use Rattle.compact_memories.specs.FileIndex.Files.{key_of}
use Rattle.compact_memories.specs.UserDedup.command.Command.{Command}
use Rattle.compact_memories.specs.UserDedup.Cloud.{user_view}
use Rattle.compact_memories.specs.UserDedup.Compact.{compact}
use Rattle.compact_memories.specs.UserDedup.Pages.{entry_at}
use Rattle.compact_memories.specs.SpentTable.Spending.{spent_by}
use Rattle.compact_memories.specs.CloudMemory.Memory.{Memory, as_spent}
use Rattle.compact_memories.specs.CompactLists.Live.{live_of, IsAlive}

-- Each user has what it had, and the memory has nothing else: the same fingerprints and the same entries; spent is what it keeps; each place is that
-- of a fingerprint that some user owns, and each recipe that of an entry.
pub record KeepsLive (shape : Shape) (list : List Command) (m : Memory) : Type 0 where
  pub own : (user : UserId) (fp : Fp) → Contains (user_view shape (compact shape list) user).own fp ↔ Contains (user_view shape list user).own fp
  pub files : (user : UserId) (key : Tag × Version) → entry_at (user_view shape (compact shape list) user).files key ≡ entry_at (user_view shape list user).files key
  pub spent : (user : UserId) → as_spent (spent_by m.spent user) ≡ live_of shape list user
  pub placed : (fp : Fp) (place : Place) → get m.places fp.0 ≡ Some place → IsAlive shape list fp
  pub entered : (user : UserId) (tag : Tag) (version : Version) (e : Entry) → get m.files (key_of user.0 tag.0 version.0) ≡ Some e
      → IsSome (entry_at (user_view shape list user).files (tag, version))

-- the blob lies in front of the region that begins there, or behind it
abbrev pub IsOutOf : ℕ → Placed → Type 0
IsOutOf start b = (b.place + length b.blob ≤ start) ⊎ (start + region_len ≤ b.place)

-- The journal stays, and what lies out of the region that begins there lies there still.
pub record KeepsOtherRegion (start : ℕ) (old new : Cloud) : Type 0 where
  pub journal : new.now Journal ≡ old.now Journal
  pub shares : (b : Placed) → IsOutOf start b → IsAt (old.now Shares).read b → IsAt (new.now Shares).read b
  pub recipes : (b : Placed) → IsOutOf start b → IsAt (old.now Recipes).read b → IsAt (new.now Recipes).read b

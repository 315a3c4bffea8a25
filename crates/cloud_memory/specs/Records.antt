-- What the records of a journal need of a memory that takes them.
use Rattle.std.specs.Prelude.{◌≡◌, ◌<◌, ◌^◌, None, IfSome}
use Rattle.std.specs.FinMap.{get, len}
use Rattle.spent_table.specs.CdBase.ids.Fp.{Fp}
use Rattle.spent_table.specs.CdBase.ids.UserId.{UserId}
use Rattle.spent_table.specs.CdBase.rooms.Room.TheVariants.{Files}
use Rattle.file_index.specs.Files.{used_by as files_used}
use Rattle.file_index.specs.PoolMap.Accounts.{limit_for}
use Rattle.cloud_areas.specs.RecordBody.body.PutItem.{PutItem}
use Rattle.spent_table.specs.CdBase.place.Place.{Place}
use Rattle.share_index.specs.Order.{owner_of}
use Rattle.share_index.specs.Shares.{used_by as owners_used}
use Rattle.cloud_areas.specs.Placing.{end_of}
use Rattle.cloud_memory.specs.declared.cloud.CloudMemory.{CloudMemory}
use Rattle.cloud_memory.specs.declared.rooms.Full.{Full}

-- The fingerprint has no place, and the index has room for this one.
pub record HasPlaceRoom (cloud : CloudMemory) (fp : Fp) (place : Place) : Type 0 where
  pub new : get cloud.shares.places fp.0 ≡ None
  pub fps : len cloud.shares.places < cloud.shares.fps
  pub end : end_of place < 2 ^ 64

-- what is answered where the user has as many entries as it may
abbrev pub full_entries : CloudMemory → UserId → Full
full_entries cloud user = record { room = Files; used = files_used cloud.files user.0; need = 1; limit = limit_for cloud.files.accounts user.0 }

-- The share is new to its user, and the index has room for it; and where the item has a place, there is room for that.
pub record HasItemRoom (cloud : CloudMemory) (user : UserId) (item : PutItem) : Type 0 where
  pub new : get cloud.shares.owners (owner_of user.0 item.fp.0) ≡ None
  pub owners : owners_used cloud.shares user.0 < limit_for cloud.shares.accounts user.0
  pub place : IfSome item.place (HasPlaceRoom cloud item.fp)

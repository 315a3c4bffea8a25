-- The greatest rooms that format 1 had, for all users together, and which of them a record passes.
use Rattle.std.specs.Prelude.{ℕ, ◌+◌, length, count_by, nat_lt, Option, Some, None, if◌then◌else◌}
use Rattle.std.specs.Option.{option_or}
use Rattle.std.specs.FinMap.{len}
use Rattle.message_fields.specs.CdBase.Limits.{greatest_rooms}
use Rattle.message_fields.specs.CdBase.rooms.Room.{Room}
use Rattle.message_fields.specs.CdBase.rooms.Room.TheVariants.{Shares, Recipes, Journal, Fps, Owners, Files}
use Rattle.record_checks.specs.RecordBody.Spelling as bodies
use Rattle.record_checks.specs.RecordBody.Spelling.{Body}
use Rattle.record_checks.specs.CloudMemory.Greatest.{HasGreatest}
use Rattle.record_checks.specs.CloudMemory.Memory.{Memory}
use Rattle.record_checks.specs.CloudMemory.cloud.CloudMemory.{CloudMemory}
use Rattle.record_checks.specs.Steps.{has_place}

-- how much of a room the cloud may hold
abbrev pub limit_of : Room → ℕ
limit_of Shares = greatest_rooms.shares
limit_of Recipes = greatest_rooms.recipes
limit_of Journal = greatest_rooms.journal
limit_of Fps = greatest_rooms.fps
limit_of Owners = greatest_rooms.owners
limit_of Files = greatest_rooms.files

-- The memory has these limits, and all users share one account.
abbrev pub HasFirstRooms : CloudMemory → Type 0
HasFirstRooms cloud = HasGreatest (limit_of Fps) (limit_of Owners) (limit_of Files) (length cloud.spent) cloud

-- the room, where so much of it passes its limit
abbrev pub if_past : Room → ℕ → Option Room
if_past room used = if nat_lt (limit_of room) used then Some room else None

-- The first room that a record would pass by the number of what it has, if all of that were new.
abbrev pub crowded : Memory → Body → Option Room
crowded m (bodies.Put user items) = option_or (if_past Fps (len m.places + count_by has_place items)) (if_past Owners (len m.owners + length items))
crowded m (bodies.Commit c) = if_past Files (len m.files + 1)
crowded m (bodies.Delete d) = None
crowded m (bodies.Kept items) = if_past Fps (len m.places + length items)
crowded m (bodies.Spent s) = None

-- The room that a record has passed by bytes, where it left this memory.
abbrev pub overfull : Body → Memory → Option Room
overfull (bodies.Put user items) m = if_past Shares m.shares_end
overfull (bodies.Commit c) m = if_past Recipes m.recipes_end
overfull (bodies.Delete d) m = None
overfull (bodies.Kept items) m = if_past Shares m.shares_end
overfull (bodies.Spent s) m = None

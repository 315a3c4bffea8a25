-- What is written of a migration, and the status that is due with it.
use Rattle.std.specs.Prelude.{ℕ, List, [], ◌∷◌, Result, Ok, Err, codes, decimal}
use Rattle.store_migration.specs.CdBase.ids.CloudNo.{CloudNo}
use Rattle.store_migration.specs.CdBase.ids.UserId.{UserId}
use Rattle.store_migration.specs.CdBase.rooms.Room.{Room}
use Rattle.store_migration.specs.declared.errors.OldErr.{OldErr}
use Rattle.store_migration.specs.declared.errors.OldErr.TheVariants.{NotBegun, Damaged, OtherStore, RoomsTooSmall}
use Rattle.store_migration.specs.declared.errors.MigrateErr.{MigrateErr}
use Rattle.store_migration.specs.declared.errors.MigrateErr.TheVariants as why
use Rattle.command_cloud.specs.Transcript.ending.Ending.TheVariants as endings
use Rattle.command_cloud.specs.Transcript.Endings.{ending_text}
use Rattle.command_cloud.specs.Transcript.Transcript.{ended, room_word}

-- `migrated CLOUD COMMANDS`
abbrev pub migrated_text : CloudNo → ℕ → List ℕ
migrated_text cloud commands = ended (codes "migrated" ∷ decimal cloud.0 ∷ decimal commands ∷ [])

-- `refused already CLOUD`
abbrev pub already_text : CloudNo → List ℕ
already_text cloud = ended (codes "refused already" ∷ decimal cloud.0 ∷ [])

-- `refused toolarge USER ROOM USED LIMIT`
abbrev pub large_text : UserId → Room → ℕ → ℕ → List ℕ
large_text user room used limit =
    ended (codes "refused toolarge" ∷ decimal user.0 ∷ room_word room ∷ decimal used ∷ decimal limit ∷ [])

-- the line of a cloud that can't be opened as one of format 1
abbrev pub old_text : CloudNo → OldErr → List ℕ
old_text cloud (NotBegun len) = ending_text (endings.NotBegun cloud len)
old_text cloud (Damaged at byte) = ending_text (endings.Damaged cloud at byte)
old_text cloud (OtherStore found asked at) = ending_text (endings.Other cloud found.format found.shape.n found.shape.k found.cloud)
old_text cloud (RoomsTooSmall room limit at) = ending_text (endings.Rooms cloud room limit)

abbrev pub migrate_status : Result ℕ MigrateErr → ℕ
migrate_status (Ok commands) = 0
migrate_status (Err (why.Open error)) = 7
migrate_status (Err why.Already) = 8
migrate_status (Err (why.TooLarge user room used limit)) = 8
migrate_status (Err why.Fault) = 5
migrate_status (Err why.NoMemory) = 6

abbrev pub migrate_text : CloudNo → Result ℕ MigrateErr → List ℕ
migrate_text cloud (Ok commands) = migrated_text cloud commands
migrate_text cloud (Err (why.Open error)) = old_text cloud error
migrate_text cloud (Err why.Already) = already_text cloud
migrate_text cloud (Err (why.TooLarge user room used limit)) = large_text user room used limit
migrate_text cloud (Err why.Fault) = ending_text (endings.Shelf cloud)
migrate_text cloud (Err why.NoMemory) = []

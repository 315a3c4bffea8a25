-- When all connections are served, or memory runs out: a told cloud that stands for a list within the rooms or isn't
-- begun, and nothing that fails.
use Rattle.std.specs.Prelude.{◌≡◌, ◌⊎◌, ℕ, ◌-◌, ◌^◌, ◌<◌, IsTrue, List}
use Rattle.share_server.specs.CdEdges.Disk.{reads}
use Rattle.share_server.specs.JournalStart.rooms.UserRooms.{UserRooms}
use Rattle.share_server.specs.UserDedup.command.Command.{Command}
use Rattle.share_server.specs.UserDedup.Spending.{IsWithin}
use Rattle.share_server.specs.CloudAreas.Standing.{StandsFor}
use Rattle.share_server.specs.Names.{HasNoJournal}
use Rattle.serve_command.specs.Served.{ServeCall, old_cloud, new_cloud, own_header}

-- the count didn't rise, and isn't at its last value
abbrev pub IsStill : ℕ → ℕ → Type 0
IsStill before now = (now ≡ before) × (before < 2 ^ 64 - 1)

-- the areas stand for a list within rooms of theirs
abbrev pub HasListWithinRooms : ServeCall → Type 0
HasListWithinRooms call = (rooms : UserRooms) × (list : List Command) × StandsFor (reads (old_cloud call).now) (own_header rooms call) list
    × IsWithin call.shape rooms list

-- the store isn't begun
abbrev pub IsStoreUnbegun : ServeCall → Type 0
IsStoreUnbegun call = HasNoJournal (reads (old_cloud call).now)

-- Nothing fails in the call.
pub record IsServeUnhindered (call : ServeCall) : Type 0 where
  pub told : IsTrue (old_cloud call).told
  pub holds : HasListWithinRooms call ⊎ IsStoreUnbegun call
  pub cloud : IsStill (old_cloud call).faults (new_cloud call).faults
  pub sink : IsStill call.out.faults_before call.out.faults_after
  pub ports : IsStill call.ports_before call.ports_after

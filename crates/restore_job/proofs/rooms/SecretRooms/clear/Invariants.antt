use Rattle.std.proofs.Common.{◌≡◌, ◌<◌, ℕ, []}
use Rattle.restore_job.specs.Steps.{room_of}
use Rattle.restore_job.proofs.rooms.SecretRooms.clear.Given as goal

abbrev pub invariant-loop-room : goal.invariant-loop-room
invariant-loop-room l = (j : ℕ) → j < l.room-index → room_of l.room-items j ≡ []

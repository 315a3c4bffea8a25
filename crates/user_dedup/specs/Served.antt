-- What a cloud of these rooms serves by its list.
use Rattle.std.specs.Prelude.{ℕ, List}
use Rattle.journal_start.specs.CdBase.shape.Shape.{Shape}
use Rattle.journal_start.specs.declared.rooms.UserRooms.{UserRooms}
use Rattle.messages.specs.declared.request.Request.{Request}
use Rattle.user_dedup.specs.declared.command.Command.{Command}
use Rattle.user_dedup.specs.Dedup.{Outcome}
use Rattle.user_dedup.specs.Exec.{served}
use Rattle.user_dedup.specs.Spending.{full_for}

-- Full comes where the request adds a command for which a room of its user's has no place.
abbrev pub served_by : UserRooms → Shape → ℕ → List Command → Request → Outcome
served_by rooms shape cloud = served shape cloud (full_for shape rooms)

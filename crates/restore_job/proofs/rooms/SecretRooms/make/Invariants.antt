use Rattle.std.proofs.Common.{◌≡◌, vec_len}
use Rattle.restore_job.proofs.rooms.SecretRooms.make.Given as goal

abbrev pub invariant-loop-i : goal.invariant-loop-i
invariant-loop-i l = vec_len l.items ≡ l.i

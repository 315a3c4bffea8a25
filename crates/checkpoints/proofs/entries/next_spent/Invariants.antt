use Rattle.std.proofs.Common.{◌≡◌}
use Rattle.checkpoints.specs.Records.{spents_from}
use Rattle.checkpoints.proofs.entries.next_spent.Given as goal

abbrev pub invariant-loop-user : goal.invariant-loop-user
invariant-loop-user l = spents_from l.table l.from ≡ spents_from l.table l.user

use Rattle.std.proofs.Common.{◌≡◌, ℕ, [], length}
use Rattle.restore_command.specs.Recalling.{kept_of}
use Rattle.restore_command.proofs.recalling.KeptReplies.make.Given as goal

abbrev pub invariant-loop-number : goal.invariant-loop-number
invariant-loop-number l = (length l.items.items ≡ l.number) × ((cloud : ℕ) → kept_of l.items.items cloud ≡ [])

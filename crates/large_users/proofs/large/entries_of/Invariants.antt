use Rattle.large_users.specs.Counting.{IsCountOf}
use Rattle.large_users.proofs.large.entries_of.Given as goal

abbrev pub invariant-loop-slot : goal.invariant-loop-slot
invariant-loop-slot l = record { so_far : IsCountOf l.user.0 l.files.slots l.slot l.entries }

use Rattle.std.proofs.Common.{length}
use Rattle.record_checks.specs.CloudMemory.Rooms.{memory_of}
use Rattle.record_checks.proofs.KeptWalking.{Walking}
use Rattle.first_records.specs.Steps.{HasKeptsRoom}
use Rattle.first_records.proofs.kepts.take_items.Given as goal

abbrev pub invariant-loop-found : goal.invariant-loop-found
invariant-loop-found l =
    Walking l.ground l.inside (memory_of l.initial.memory) (memory_of l.memory) l.initial.items l.items × HasKeptsRoom l.memory l.items.items

abbrev pub decreases-loop-found : goal.decreases-loop-found
decreases-loop-found l = length l.items.items

use Rattle.blob_audit.specs.Holding.{HasAll}
use Rattle.blob_audit.proofs.order.placed_files.Given as goal

abbrev pub invariant-loop-slot : goal.invariant-loop-slot
invariant-loop-slot l = HasAll l.slot l.order.items

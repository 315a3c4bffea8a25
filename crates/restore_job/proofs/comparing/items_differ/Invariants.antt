use Rattle.std.proofs.Common.{◌≡◌, ◌+◌, length}
use Rattle.restore_job.specs.Restored.{items_difference}
use Rattle.restore_job.proofs.comparing.items_differ.Given as goal

abbrev pub invariant-items : goal.invariant-items
invariant-items l = record {
  same : items_difference l.place l.ones l.others ≡ items_difference l.fn.first l.fn.one l.fn.other;
  few : l.place + length l.ones ≡ l.fn.first + length l.fn.one;
}

abbrev pub decreases-items : goal.decreases-items
decreases-items l = length l.ones

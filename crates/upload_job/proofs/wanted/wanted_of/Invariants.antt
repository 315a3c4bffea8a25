use Rattle.upload_job.proofs.Wanting.{Along}
use Rattle.upload_job.proofs.wanted.wanted_of.Given as goal

abbrev pub invariant-loop-item : goal.invariant-loop-item
invariant-loop-item l = Along l.shape.k l.items l.shares l.item-index l.start l.seen l.wanted.items

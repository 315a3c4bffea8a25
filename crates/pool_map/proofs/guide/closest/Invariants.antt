use Rattle.pool_map.specs.Index.{IsStart}
use Rattle.pool_map.proofs.guide.closest.Given as goal

abbrev pub invariant-loop-level : goal.invariant-loop-level
invariant-loop-level g l = IsStart g.K.Ord.cmp l.pool.slots l.key l.closest

use Rattle.std.proofs.Common.{◌∙◌, sym}
use Rattle.pool_map.proofs.Counts.{len-held}
use Rattle.pool_map.proofs.Order.{once}
use Rattle.pool_map.proofs.sorted.SortedTableTable.len.Goals as goal

pub returns-clause-keys : goal.returns-clause-keys
returns-clause-keys g c = rw (← c.self.view_is) (c.self.invariant.1 ∙ sym (len-held g.K.Ord.cmp g.met.K.Ord.total c.self.inside.pool (once g.K.Ord.cmp g.met.K.Ord.total c.self.inside.pool.slots _ c.self.invariant.0.index)))

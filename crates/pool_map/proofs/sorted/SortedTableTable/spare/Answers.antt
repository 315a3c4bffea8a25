use Rattle.std.proofs.Common.{◌+◌, ◌∙◌, ap}
use Rattle.pool_map.proofs.Counts.{charged-uses}
use Rattle.pool_map.proofs.Order.{once}
use Rattle.pool_map.proofs.sorted.SortedTableTable.spare.Goals as goal

pub returns : goal.returns
returns g c = rw (← c.self.view_is) (ap (λ n. c.spare.result + n) (charged-uses g.K.Ord.cmp g.met.K.Ord.total c.self.inside.pool (once g.K.Ord.cmp g.met.K.Ord.total c.self.inside.pool.slots _ c.self.invariant.0.index) c.args.account) ∙ c.spare.ensures)

use Rattle.std.proofs.Common.{◌+◌, ◌∙◌, ap}
use Rattle.pool_map.proofs.Counts.{charged-uses}
use Rattle.pool_map.proofs.hashed.HashTableTable.spare.Goals as goal

pub returns : goal.returns
returns g c = rw (← c.self.view_is) (ap (λ n. c.spare.result + n) (charged-uses g.K.Ord.cmp g.met.K.Ord.total c.self.inside.pool c.self.invariant.0.apart c.args.account) ∙ c.spare.ensures)

use Rattle.std.proofs.Common.{◌∙◌, ◌^◌, ap}
use Rattle.share_index.specs.Counts.{UserCounts, count_at, begun, sum_below}
use Rattle.share_index.proofs.Counting.{batches-sum}
use Rattle.share_index.proofs.counts.UserCounts.batches.Goals as goal

pub returns : goal.returns
returns c =
    batches-sum c.self.inside.table c.self.inside.batches c.self.invariant
    ∙ ap (λ (u : UserCounts). sum_below (2 ^ 32) (λ user. begun (count_at u.counts user))) c.self.view_is

use Rattle.std.proofs.Common.{◌∙◌, ap, sym, subst, ◌<◌, ◌^◌, [], ◌∷◌}
use Rattle.pool_map.specs.Shown.{shown, shown-empty}
use Rattle.share_index.specs.Counting.{room_of}
use Rattle.share_index.proofs.Counting.{plain, number_total, number_exact, counting-empty}
use Rattle.share_index.proofs.counts.UserCounts.clear.Goals as goal

pub invariant_of-self : goal.invariant_of-self
invariant_of-self c =
    counting-empty c.clear.new.self
    (c.clear.ensures.limits ∙ c.self.invariant.limits ∙ ap (λ l. room_of l ∷ []) (sym c.clear.ensures.limits))
    (subst (λ l. room_of l < 2 ^ 32) (sym c.clear.ensures.limits) c.self.invariant.small)
    c.clear.ensures.emptied

pub returns-clause-counts : goal.returns-clause-counts
returns-clause-counts c = ap (shown plain) c.clear.ensures.emptied ∙ shown-empty plain number_total number_exact

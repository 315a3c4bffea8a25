use Rattle.std.proofs.Common.{◌∙◌, ap, sym, subst, ◌<◌, ◌^◌, [], ◌∷◌}
use Rattle.pool_map.specs.Shown.{shown, shown-empty}
use Rattle.cd_base.specs.Order.{fp_exact}
use Rattle.share_index.specs.Counting.{room_of}
use Rattle.share_index.proofs.Placing.{fp_total, kept_of, placing-empty}
use Rattle.share_index.proofs.places.PlaceTable.clear.Goals as goal

pub invariant_of-self : goal.invariant_of-self
invariant_of-self c =
    placing-empty c.clear.new.self
    (c.clear.ensures.limits ∙ c.self.invariant.limits ∙ ap (λ l. room_of l ∷ []) (sym c.clear.ensures.limits))
    (subst (λ l. room_of l < 2 ^ 32) (sym c.clear.ensures.limits) c.self.invariant.small)
    c.clear.ensures.emptied

pub returns-clause-kept : goal.returns-clause-kept
returns-clause-kept c = ap (shown kept_of) c.clear.ensures.emptied ∙ shown-empty kept_of fp_total fp_exact

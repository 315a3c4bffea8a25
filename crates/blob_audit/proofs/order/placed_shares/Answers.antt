use Rattle.std.proofs.Common.{ℕ, ◌+◌, List, sym, subst}
use Rattle.blob_audit.specs.Holding.{HasAll}
use Rattle.blob_audit.proofs.Ordered.{one_has}
use Rattle.blob_audit.proofs.order.placed_shares.Goals as goal

pub loop-slot-preserved : goal.loop-slot-preserved
loop-slot-preserved c =
    let slot = c.loop-slot.slot in
    subst (λ (items : List (ℕ × ℕ)). HasAll (slot + 1) items) (sym c.in_ok-push.ensures.items) (one_has slot c.share_place.result c.loop-slot.order.items c.loop-slot.invariant)

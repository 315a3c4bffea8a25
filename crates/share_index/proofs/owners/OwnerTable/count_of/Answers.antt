use Rattle.std.proofs.Common.{◌≡◌, ◌∙◌, ◌<◌, ap, sym, subst, take, count_by}
use Rattle.pool_map.specs.Slots.{IsListed}
use Rattle.share_index.specs.Owning.{Owners, shows_fp}
use Rattle.share_index.specs.Shares.{owners_of}
use Rattle.share_index.proofs.Scanning.{scanned}
use Rattle.share_index.proofs.owners.OwnerTable.count_of.Goals as goal

pub returns : goal.returns
returns c =
    scanned c.self.inside.table c.args.fp.now c.loop-slot.count c.loop-slot.slot c.slots-slot-end.result
    (subst (λ (o : Owners). c.loop-slot.count ≡ count_by (shows_fp c.args.fp.now) (take c.loop-slot.slot o.slots)) (sym c.self.view_is) c.loop-slot.invariant.counted)
    (subst (λ (o : Owners). 0 < c.loop-slot.slot → IsListed o.owners o.slots) (sym c.self.view_is) c.loop-slot.invariant.each)
    c.slots-slot-end.ensures c.loop-slot.auto.slot-end c.loop-slot-test.false
    ∙ ap (λ (o : Owners). owners_of o.owners c.args.fp.now) c.self.view_is

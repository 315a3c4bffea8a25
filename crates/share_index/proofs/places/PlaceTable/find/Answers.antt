use Rattle.std.proofs.Common.{◌∙◌, ap, sym}
use Rattle.std.specs.Prelude.{is_some}
use Rattle.std.specs.FinMap.{get}
use Rattle.pool_map.specs.Slots.{slot-shown, present-shown}
use Rattle.share_index.specs.declared.key.Kept.{Kept}
use Rattle.cd_base.specs.Order.{fp_cmp}
use Rattle.share_index.specs.Placing.{Places}
use Rattle.share_index.proofs.places.PlaceTable.find.Goals as goal

pub returns-clause-slot : goal.returns-clause-slot
returns-clause-slot c = rw (← c.self.view_is) (slot-shown (λ (k : Kept). k) fp_cmp c.self.inside.table c.args.fp.now c.slot_of.result c.slot_of.ensures.slot)

pub returns-clause-present : goal.returns-clause-present
returns-clause-present c =
    c.slot_of.ensures.present
    ∙ sym (present-shown (λ (k : Kept). k) fp_cmp c.self.inside.table c.args.fp.now)
    ∙ ap (λ (p : Places). is_some (get p.kept c.args.fp.now)) c.self.view_is

use Rattle.std.proofs.Common.{sym, ap, ◌∙◌, arith}
use Rattle.record_body.specs.FirstReading.{item_at}
use Rattle.record_body.proofs.FirstWalks.{item_ends, not_read}
use Rattle.record_body.proofs.first_items.item_from.Goals as goal

pub returns-in-Ok : goal.returns-in-Ok
returns-in-Ok c =
    item_ends c.args.body.now c.args.at c.in-Ok.item c.in-Ok.rest.now c.saturating_sub.result (λ i. omega (arith, c.type_inv.body i)) c.requires (ap item_at (sym c.split_at.ensures.back) ∙ c.in-Ok.ensures) (omega arith)

pub returns-in-Err : goal.returns-in-Err
returns-in-Err c = not_read c.args.body.now c.args.at c.in-Err.field-0.0 (ap item_at (sym c.split_at.ensures.back) ∙ c.in-Err.ensures)

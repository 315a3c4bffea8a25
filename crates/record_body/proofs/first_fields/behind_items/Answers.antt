use Rattle.std.proofs.lemmas.Result.{err_from_is_err_and}
use Rattle.message_fields.specs.Parts.{times, behind}
use Rattle.message_fields.proofs.Loops.{behind_goes_on, behind_stops, behind_ends}
use Rattle.record_body.specs.FirstReading.{item_at}
use Rattle.record_body.proofs.first_fields.behind_items.Goals as goal

pub returns-in_err-after : goal.returns-in_err-after
returns-in_err-after c =
    let p = err_from_is_err_and c.from_residual.result c.from_residual.ensures.1 in
    rw (p.1, p.2) (behind_stops item_at c.in_err-after.field-0.0.0 c.args.count c.loop-i._i c.loop-i.rest.now (behind (times item_at c.args.count c.args.bytes.now)) c.loop-i-test.true c.in_err-after.ensures c.loop-i.invariant)

pub loop-i-preserved : goal.loop-i-preserved
loop-i-preserved c = behind_goes_on item_at c.args.count c.loop-i._i c.loop-i.rest.now c.in_ok-after.after.now _ (behind (times item_at c.args.count c.args.bytes.now)) c.loop-i-test.true c.in_ok-after.ensures c.loop-i.invariant

pub returns : goal.returns
returns c = behind_ends item_at c.args.count c.loop-i._i c.loop-i.rest.now (behind (times item_at c.args.count c.args.bytes.now)) c.loop-i-test.false c.loop-i.invariant

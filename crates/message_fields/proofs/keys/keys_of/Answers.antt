use Rattle.std.proofs.Common.{None}
use Rattle.std.proofs.lemmas.Result.{err_from_is_err_and}
use Rattle.message_fields.specs.Keys.{keys_above_at}
use Rattle.message_fields.proofs.KeyLaws.{keys_go_on, keys_stop, keys_end}
use Rattle.message_fields.proofs.keys.keys_of.Goals as goal

pub returns-in_err-key : goal.returns-in_err-key
returns-in_err-key c =
    let p = err_from_is_err_and c.from_residual.result c.from_residual.ensures.1 in
    rw (p.1, p.2) (keys_stop c.in_err-key.field-0.0.0 c.loop-i.entries c.loop-i.last c.args.count c.loop-i.i c.loop-i.rest.now (keys_above_at None c.args.count c.args.bytes.now) c.loop-i-test.true c.in_err-key.ensures c.loop-i.invariant)

pub loop-i-preserved : goal.loop-i-preserved
loop-i-preserved c =
    rw c.in_ok-push.ensures.ok (keys_go_on c.loop-i.entries c.loop-i.last c.args.count c.loop-i.i c.loop-i.rest.now c.in_ok-key.key c.in_ok-key.after.now (keys_above_at None c.args.count c.args.bytes.now) c.loop-i-test.true c.in_ok-key.ensures c.loop-i.invariant)

pub returns : goal.returns
returns c = keys_end c.loop-i.entries c.loop-i.last c.args.count c.loop-i.i c.loop-i.rest.now (keys_above_at None c.args.count c.args.bytes.now) c.loop-i-test.false c.loop-i.invariant

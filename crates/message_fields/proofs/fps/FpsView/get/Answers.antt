use Rattle.std.proofs.Common.{arith}
use Rattle.message_fields.proofs.FpLaws.{fp_read, fp_there, fp_past}
use Rattle.message_fields.proofs.fps.FpsView.get.Goals as goal

pub returns-in-Ok : goal.returns-in-Ok
returns-in-Ok c = rw (← c.self.view_is) (fp_read c.self.inside.count c.args.place c.self.inside.bytes.now c.split_at.result.1.now c.in-Ok.fp.0 c.in-Ok.field-0-1.now c.if-place-self.true c.split_at.ensures.back c.in-Ok.ensures)

pub returns-in-Err : goal.returns-in-Err
returns-in-Err c = absurd (fp_there c.split_at.result.1.now c.in-Err.field-0.0 (omega (arith, c.split_at.ensures.back_len, c.self.invariant)) c.in-Err.ensures)

pub returns-else-place-self : goal.returns-else-place-self
returns-else-place-self c = rw (← c.self.view_is) (fp_past c.self.inside.count c.args.place c.self.inside.bytes.now c.if-place-self.false)

use Rattle.std.proofs.Common.{subst}
use Rattle.upload_job.specs.Index.{IsReplyRead, state_in}
use Rattle.upload_job.proofs.Replying.{turn_by_step, turn_by_none}
use Rattle.upload_job.proofs.turn.turn_of.Goals as goal

pub returns-in-Ok-Some-clause-turns : goal.returns-in-Ok-Some-clause-turns
returns-in-Ok-Some-clause-turns c = λ w all len items batches.
    turn_by_step w all (state_in all c.args.lane.now.stage) c.args.content.now c.in-Ok-Some.reply c.step_of.result c.turn_by.result
    (subst (IsReplyRead c.args.content.now) c.in-Ok-Some.field-0-is c.in-Ok-Some.ensures.read)
    (c.step_of.ensures w all len items batches) c.turn_by.ensures.turns

pub returns-in-Ok-None-clause-turns : goal.returns-in-Ok-None-clause-turns
returns-in-Ok-None-clause-turns c = λ w all len items batches.
    turn_by_none w all (state_in all c.args.lane.now.stage) c.args.content.now c.turn_by-in-Ok-None.result
    (subst (IsReplyRead c.args.content.now) c.in-Ok-None.field-0-is c.in-Ok-None.ensures.read) c.turn_by-in-Ok-None.ensures.turns

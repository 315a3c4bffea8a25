use Rattle.std.proofs.Common.{sym, subst}
use Rattle.user_dedup.specs.Messages.ReplyReading.{reply_at}
use Rattle.restore_job.specs.Steps.{NoShares, Refuses}
use Rattle.restore_job.proofs.Refused.{shares_refused_by}
use Rattle.restore_job.proofs.reply.shares_from.Goals as goal

pub returns-in-Ok-Other-clause-from : goal.returns-in-Ok-Other-clause-from
returns-in-Ok-Other-clause-from c =
    let read = rw c.in-Ok-Other.field-0-is at c.in-Ok-Other.ensures.reads in
    let small = rw c.in-Ok-Other.field-0-is at c.in-Ok-Other.ensures.in_place in
    subst (Refuses c.args.cloud (reply_at c.args.content.now) (NoShares c.args.count)) (sym c.refusal_of.ensures.is)
    (shares_refused_by c.args.count c.args.cloud c.kind_of-kind.result (reply_at c.args.content.now) c.in-Ok-Other.reply read small)

use Rattle.std.proofs.Common.{sym, subst}
use Rattle.user_dedup.specs.Messages.reply.Reply.{Reply}
use Rattle.upload_job.specs.Lane.{Sending}
use Rattle.upload_job.specs.Index.{StepIsByReply}
use Rattle.upload_job.proofs.lane.after_put.Goals as goal

pub returns-in-Stored : goal.returns-in-Stored
returns-in-Stored c = λ w all batch flags rest e f. subst (λ (r : Reply). StepIsByReply w all (Sending batch flags rest) r c.after_stored.result) (sym c.in-Stored.is) (c.after_stored.ensures w all batch flags rest e f)

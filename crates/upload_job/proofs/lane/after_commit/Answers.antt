use Rattle.std.proofs.Common.{sym, subst}
use Rattle.user_dedup.specs.Messages.reply.Reply.{Reply}
use Rattle.upload_job.specs.Lane.{Committing}
use Rattle.upload_job.specs.Index.{StepIsByReply}
use Rattle.upload_job.proofs.lane.after_commit.Goals as goal

pub returns-in-Lacking : goal.returns-in-Lacking
returns-in-Lacking c = λ w all e f. subst (λ (r : Reply). StepIsByReply w all Committing r c.after_lacking.result) (sym c.in-Lacking.is) (c.after_lacking.ensures w all e f)

use Rattle.std.proofs.Common.{take, drop, sym, subst}
use Rattle.user_dedup.specs.Messages.reply.Reply.{Reply}
use Rattle.upload_job.specs.Upload.{in_batches}
use Rattle.upload_job.specs.Lane.{Asking}
use Rattle.upload_job.specs.Index.{StepIsByReply}
use Rattle.upload_job.proofs.lane.after_query.Goals as goal

pub returns-in-Known : goal.returns-in-Known
returns-in-Known c = λ w all e f. subst (λ (r : Reply). StepIsByReply w all (Asking (take 256 (drop c.args.from all)) (in_batches (drop 256 (drop c.args.from all)))) r c.after_known.result) (sym c.in-Known.is) (c.after_known.ensures w all e f)

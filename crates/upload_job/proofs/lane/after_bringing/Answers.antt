use Rattle.std.proofs.Common.{◌≡◌, ◌<◌, ◌≤◌, length, take, drop, sym, ap, ◌∙◌, subst, arith}
use Rattle.upload_job.specs.Lane.{LaneState}
use Rattle.upload_job.specs.Index.{StepIsByReply}
use Rattle.upload_job.proofs.Batches.{onward_some, onward_none, batch_len, batch_few, next_batch}
use Rattle.upload_job.proofs.lane.after_bringing.Goals as goal

pub overflow_cast-batch : goal.overflow_cast-batch
overflow_cast-batch c = let few = batch_few c.args.from c.args.wanted.now in let len = ap length c.batch_at-batch.ensures in omega arith

pub returns-then-from-wanted : goal.returns-then-from-wanted
returns-then-from-wanted c = λ w all len items batches.
    let some : c.args.from < length all = omega arith in
    let asked : length (take 256 (drop c.args.from all)) ≡ length c.batch_at-batch.result.now = batch_len c.args.from all c.args.wanted.now len ∙ sym (ap length c.batch_at-batch.ensures) in
    subst (λ (s : LaneState). StepIsByReply w all s c.args.reply c.after_query.result) (sym (onward_some all c.args.from some))
    (c.after_query.ensures w all asked (next_batch c.args.from (length c.batch_at-batch.result.now) all (sym asked)))

pub returns-else-from-wanted : goal.returns-else-from-wanted
returns-else-from-wanted c = λ w all len items batches.
    let none : length all ≤ c.args.from = omega arith in
    subst (λ (s : LaneState). StepIsByReply w all s c.args.reply c.after_commit.result) (sym (onward_none all c.args.from none)) (c.after_commit.ensures w all items batches)

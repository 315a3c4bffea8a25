use Rattle.std.proofs.Common.{◌≡◌, length, take, drop, sym, ap, ◌∙◌, arith}
use Rattle.upload_job.specs.Upload.{in_batches}
use Rattle.upload_job.proofs.Batches.{batch_len, batch_few, next_batch}
use Rattle.upload_job.proofs.lane.after_sending.Goals as goal

pub overflow_cast-sent : goal.overflow_cast-sent
overflow_cast-sent c = let few = batch_few c.args.from c.args.wanted.now in let len = ap length c.batch_at-batch.ensures in let sent = c.zeros-sent.ensures.few in omega arith

pub returns : goal.returns
returns c = λ w all len.
    let asked : length (take 256 (drop c.args.from all)) ≡ length c.batch_at-batch.result.now = batch_len c.args.from all c.args.wanted.now len ∙ sym (ap length c.batch_at-batch.ensures) in
    c.after_put.ensures w all (take 256 (drop c.args.from all)) c.args.flags.now (in_batches (drop 256 (drop c.args.from all)))
    (sym (c.zeros-sent.ensures.value (take 256 (drop c.args.from all)) asked))
    (ap in_batches (next_batch c.args.from (length c.batch_at-batch.result.now) all (sym asked)))

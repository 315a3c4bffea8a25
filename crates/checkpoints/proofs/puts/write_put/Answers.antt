use Rattle.std.proofs.Common.{◌≡◌, List, ℕ, take, ap, ◌∙◌, arith}
use Rattle.std.proofs.lemmas.List.{length-take-le}
use Rattle.cloud_memory.specs.RecordBody.body.PutItem.{PutItem}
use Rattle.cloud_memory.specs.RecordBody.Spelling.{Put, body_bytes}
use Rattle.checkpoints.proofs.Shares.{next_user, put_next}
use Rattle.checkpoints.proofs.puts.write_put.Goals as goal

pub returns-then-count-gt0-clause-step : goal.returns-then-count-gt0-clause-step
returns-then-count-gt0-clause-step c =
    let count = c.list_batch-count.result.0 in let array = c.list_batch-count.new.items in
    put_next c.args.shares.now c.loop-at.marks c.list_batch-count.new.marks c.args.at.now c.loop-at.at c.loop-at.items array c.loop-at.invariant (let more = c.loop-at-test.true in omega (arith, more))
    (take count array) c.list_batch-count.result.1 c.list_batch-count.ensures.batch c.list_batch-count.ensures.marks (c.list_batch-count.auto.items ∙ c.loop-at.invariant.room) c.write_items.new.buffer
    (let some = c.if-count-gt0.true in omega (arith, some, length-take-le count array (let long = c.list_batch-count.auto.items in omega (arith, long, c.loop-at.invariant.room, c.list_batch-count.ensures.few))))
    (c.write_items.ensures ∙ ap (λ (items : List PutItem). body_bytes (Put (record { 0 = c.loop-at.at.user }) items)) c.split_at.ensures.front)

pub loop-at-preserved : goal.loop-at-preserved
loop-at-preserved c =
    let count = c.list_batch-count.result.0 in let array = c.list_batch-count.new.items in
    next_user c.args.shares.now c.loop-at.marks c.list_batch-count.new.marks c.args.at.now c.loop-at.at c.loop-at.items array c.loop-at.invariant (let more = c.loop-at-test.true in omega (arith, more))
    (take count array) c.list_batch-count.result.1 c.list_batch-count.ensures.batch c.list_batch-count.ensures.marks (c.list_batch-count.auto.items ∙ c.loop-at.invariant.room)
    (ap (λ (n : ℕ). take n array) (let none = c.if-count-gt0.false in let none_is : count ≡ 0 = omega (arith, none) in none_is))

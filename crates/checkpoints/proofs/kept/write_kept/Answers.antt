use Rattle.std.proofs.Common.{◌≡◌, List, ℕ, take, ap, ◌∙◌, arith}
use Rattle.std.proofs.lemmas.List.{length-take-le}
use Rattle.cloud_memory.specs.RecordBody.body.KeptItem.{KeptItem}
use Rattle.cloud_memory.specs.RecordBody.Spelling.{Kept, body_bytes}
use Rattle.checkpoints.proofs.Unowned.{kept_ends, kept_next}
use Rattle.checkpoints.proofs.kept.write_kept.Goals as goal

pub returns-then-count-gt0 : goal.returns-then-count-gt0
returns-then-count-gt0 c =
    let count = c.take_batch-count.result.0 in let array = c.take_batch-count.new.items in
    kept_next c.args.shares.now c.args.from (take count array) c.take_batch-count.result.1 c.take_batch-count.ensures.batch c.write_items.new.buffer
    (let some = c.if-count-gt0.true in let long = c.take_batch-count.auto.items in omega (arith, some, length-take-le count array (omega (arith, long, c.take_batch-count.ensures.few))))
    (c.write_items.ensures ∙ ap (λ (items : List KeptItem). body_bytes (Kept items)) c.split_at.ensures.front)

pub returns-else-count-gt0 : goal.returns-else-count-gt0
returns-else-count-gt0 c =
    let count = c.take_batch-count.result.0 in let array = c.take_batch-count.new.items in
    kept_ends c.args.shares.now c.args.from (take count array) c.take_batch-count.result.1 c.take_batch-count.ensures.batch
    (ap (λ (n : ℕ). take n array) (let none = c.if-count-gt0.false in let none_is : count ≡ 0 = omega (arith, none) in none_is))

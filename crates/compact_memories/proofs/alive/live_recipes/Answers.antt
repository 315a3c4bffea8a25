use Rattle.std.proofs.Common.{length, ap, arith, Option}
use Rattle.checkpoints.specs.FileIndex.key.Entry.{Entry}
use Rattle.checkpoints.specs.FileIndex.key.FileKey.{FileKey}
use Rattle.checkpoints.specs.FileIndex.Files.{Files}
use Rattle.compact_memories.proofs.Summing.{begins, goes_on}
use Rattle.compact_memories.proofs.alive.live_recipes.Goals as goal

pub loop-slot-init : goal.loop-slot-init
loop-slot-init c = begins (λ (e : Option (FileKey × Entry)). e) (λ (x : FileKey × Entry). x.1.len) c.args.memory.now.files.slots

pub loop-slot-preserved : goal.loop-slot-preserved
loop-slot-preserved c =
    goes_on (λ (e : Option (FileKey × Entry)). e) (λ (x : FileKey × Entry). x.1.len) c.args.memory.now.files.slots c.loop-slot.slot c.loop-slot.sum c.recipe_len-sum.result
    (let more = c.loop-slot-test.true in let same = ap (λ (f : Files). length f.slots) c.files.ensures in omega (arith, more, same, c.slots-slot-end.ensures)) c.loop-slot.invariant c.recipe_len-sum.ensures.value c.recipe_len-sum.ensures.small

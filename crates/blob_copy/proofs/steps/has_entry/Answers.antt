use Rattle.std.proofs.Common.{None, ap, sym, arith, length}
use Rattle.std.specs.Prelude.{Option}
use Rattle.record_laws.specs.FileIndex.key.Entry.{Entry}
use Rattle.record_laws.specs.FileIndex.key.FileKey.{FileKey}
use Rattle.record_laws.specs.FileIndex.Files.{Files}
use Rattle.fresh_checkpoints.proofs.Checkpoints.Picks.{passes}
use Rattle.blob_copy.proofs.Bounds.{some_more}
use Rattle.blob_copy.proofs.steps.has_entry.Goals as goal

pub returns-in-Some : goal.returns-in-Some
returns-in-Some c = (some_more (λ (e : Option (FileKey × Entry)). e) c.args.memory.now.files.slots c.args.from c.loop-slot.slot _ c.loop-slot.invariant (let more = c.loop-slot-test.true in let same = ap (λ (f : Files). length f.slots) c.files.ensures in omega (arith, more, same, c.slots-slot-end.ensures)) (sym c.in-Some.ensures.value), c.in-Some.ensures.each)

pub loop-slot-preserved : goal.loop-slot-preserved
loop-slot-preserved c = passes (λ (e : Option (FileKey × Entry)). e) c.args.memory.now.files.slots c.args.from c.loop-slot.slot None c.loop-slot.invariant (let more = c.loop-slot-test.true in let same = ap (λ (f : Files). length f.slots) c.files.ensures in omega (arith, more, same, c.slots-slot-end.ensures)) (sym c.in-None.ensures.value)

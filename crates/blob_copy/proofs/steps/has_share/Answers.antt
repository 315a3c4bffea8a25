use Rattle.std.proofs.Common.{Some, None, ap, arith, length}
use Rattle.record_laws.specs.ShareIndex.Shares.{Shares}
use Rattle.fresh_checkpoints.specs.CompactMemories.Kept.{live_at}
use Rattle.fresh_checkpoints.proofs.CompactMemories.Summing.{live_is}
use Rattle.fresh_checkpoints.proofs.Checkpoints.Picks.{passes}
use Rattle.blob_copy.proofs.Bounds.{some_more}
use Rattle.blob_copy.proofs.steps.has_share.Goals as goal

pub returns-in-Some : goal.returns-in-Some
returns-in-Some c = (some_more (live_at c.args.memory.now.shares.owners) c.args.memory.now.shares.place_slots c.args.from c.loop-slot.slot _ c.loop-slot.invariant (let more = c.loop-slot-test.true in let same = ap (λ (s : Shares). length s.place_slots) c.shares.ensures in omega (arith, more, same, c.place_slots-slot-end.ensures)) (live_is c.args.memory.now.shares c.loop-slot.slot (Some c.in-Some.field-0) c.in-Some.ensures.value), c.in-Some.ensures.each)

pub loop-slot-preserved : goal.loop-slot-preserved
loop-slot-preserved c = passes (live_at c.args.memory.now.shares.owners) c.args.memory.now.shares.place_slots c.args.from c.loop-slot.slot None c.loop-slot.invariant (let more = c.loop-slot-test.true in let same = ap (λ (s : Shares). length s.place_slots) c.shares.ensures in omega (arith, more, same, c.place_slots-slot-end.ensures)) (live_is c.args.memory.now.shares c.loop-slot.slot None c.in-None.ensures.value)

use Rattle.std.proofs.Common.{length, ap, arith}
use Rattle.compact_lists.specs.CdBase.ids.Fp.{Fp}
use Rattle.compact_lists.specs.CdBase.place.Place.{Place}
use Rattle.checkpoints.specs.ShareIndex.Shares.{Shares}
use Rattle.compact_memories.specs.Kept.{live_at}
use Rattle.compact_memories.proofs.Summing.{begins, goes_on}
use Rattle.compact_memories.proofs.alive.live_shares.Goals as goal

pub loop-slot-init : goal.loop-slot-init
loop-slot-init c = begins (live_at c.args.memory.now.shares.owners) (λ (x : Fp × Place). x.1.len) c.args.memory.now.shares.place_slots

pub loop-slot-preserved : goal.loop-slot-preserved
loop-slot-preserved c =
    goes_on (live_at c.args.memory.now.shares.owners) (λ (x : Fp × Place). x.1.len) c.args.memory.now.shares.place_slots c.loop-slot.slot c.loop-slot.sum c.share_len-sum.result
    (let more = c.loop-slot-test.true in let same = ap (λ (s : Shares). length s.place_slots) c.shares.ensures in omega (arith, more, same, c.place_slots-slot-end.ensures)) c.loop-slot.invariant c.share_len-sum.ensures.value c.share_len-sum.ensures.small

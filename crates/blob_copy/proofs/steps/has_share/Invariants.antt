use Rattle.fresh_checkpoints.specs.CompactMemories.Kept.{live_at}
use Rattle.fresh_checkpoints.proofs.Checkpoints.Picks.{Passed}
use Rattle.blob_copy.proofs.steps.has_share.Given as goal

abbrev pub invariant-loop-slot : goal.invariant-loop-slot
invariant-loop-slot l = Passed (live_at l.memory.shares.owners) l.memory.shares.place_slots l.from l.slot

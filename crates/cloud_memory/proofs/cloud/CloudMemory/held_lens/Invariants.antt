use Rattle.cloud_memory.specs.Steps.{held_len}
use Rattle.cloud_memory.proofs.Holding.{Holding}
use Rattle.cloud_memory.proofs.cloud.CloudMemory.held_lens.Given as goal

abbrev pub invariant-loop-new : goal.invariant-loop-new
invariant-loop-new l = Holding (held_len l.self.shares.places) 4294967296 l.news l.new-index l.sum

use Rattle.cloud_memory.proofs.Holding.{Holding}
use Rattle.cloud_memory.proofs.PutLength.{bytes_of}
use Rattle.cloud_memory.proofs.cloud.CloudMemory.put_len.Given as goal

abbrev pub invariant-loop-new : goal.invariant-loop-new
invariant-loop-new l = Holding (bytes_of l.self.shares.places) 45 l.news l.new-index l.sum

use Rattle.cloud_memory.proofs.Adding.{Adding}
use Rattle.cloud_memory.proofs.cloud.CloudMemory.add_shares.Given as goal

abbrev pub invariant-loop-place : goal.invariant-loop-place
invariant-loop-place l = Adding l.initial.self l.self l.user l.news l.items l.place

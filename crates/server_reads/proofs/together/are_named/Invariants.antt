use Rattle.std.proofs.Common.{◌≡◌, map, take}
use Rattle.cloud_memory.specs.UserDedup.Cloud.{fingerprint}
use Rattle.server_reads.proofs.together.are_named.Given as goal

abbrev pub invariant-loop-place : goal.invariant-loop-place
invariant-loop-place l = map fingerprint (take l.place l.shares) ≡ take l.place l.fps

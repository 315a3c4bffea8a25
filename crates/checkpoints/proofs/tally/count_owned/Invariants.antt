use Rattle.std.proofs.Common.{◌≡◌, length, drop}
use Rattle.cloud_memory.specs.CdBase.ids.Fp.{Fp}
use Rattle.checkpoints.specs.Records.{owned_in}
use Rattle.checkpoints.proofs.Tallied.{Tally}
use Rattle.checkpoints.proofs.tally.count_owned.Given as goal

abbrev pub invariant-loop-count : goal.invariant-loop-count
invariant-loop-count l = Tally (λ (fp : Fp). length fp.0 ≡ 32) (owned_in l.user (drop l.from l.shares.owner_slots)) (owned_in l.user (drop l.at l.shares.owner_slots)) l.count

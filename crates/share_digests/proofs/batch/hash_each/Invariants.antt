use Rattle.std.proofs.Common.{ℕ, ◌-◌, ◌<◌, length, map}
use Rattle.share_digests.specs.Digests.{IsRightAt, place_at}
use Rattle.share_digests.proofs.batch.hash_each.Given as goal

abbrev pub invariant-fours : goal.invariant-fours
invariant-fours l = (i : ℕ) → i < l.index → i < length l.order → IsRightAt (map (λ part. part.now) l.parts) l.digests (place_at l.order i)

abbrev pub decreases-fours : goal.decreases-fours
decreases-fours l = length l.order - l.index

use Rattle.std.proofs.Common.{◌≡◌, ◌++◌, length, map, take}
use Rattle.share_digests.proofs.parts.parts_of.Given as goal

abbrev pub invariant-shares : goal.invariant-shares
invariant-shares l = (length l.parts ≡ 256) × (take l.place (map (λ part. part.now) l.parts) ++ l.rest ≡ l.shares)

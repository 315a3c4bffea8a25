use Rattle.std.proofs.Common.{◌≡◌, ℕ, map, subst, arith}
use Rattle.share_digests.specs.Digests.{IsRightAt, place_at}
use Rattle.share_digests.proofs.batch.hash_next.Goals as goal

pub returns-then-index-order-clause-four : goal.returns-then-index-order-clause-four
returns-then-index-order-clause-four c = λ i from less below.
    let same : c.args.index ≡ i = omega arith in
    subst (λ (k : ℕ). IsRightAt (map (λ part. part.now) c.args.parts.now) c.hash_one.new.digests (place_at c.args.order.now k)) same c.hash_one.ensures.right

use Rattle.std.proofs.Common.{ℕ, ◌<◌, List, length, slice_index_or, subst, arith}
use Rattle.std.proofs.lemmas.List.{take_all}
use Rattle.share_digests.specs.Digests.{IsIn}
use Rattle.share_digests.proofs.Ordered.{has_none, has_more, below_more_set}
use Rattle.share_digests.proofs.order.write_places.Goals as goal

pub places-init : goal.places-init
places-init c = (has_none, λ k d less. absurd (omega arith))

pub places-preserved : goal.places-preserved
places-preserved c =
    let less : c.places.place < length c.places.order = omega arith in (
      has_more c.places.order c.places.place _ less c.places.invariant.0,
      below_more_set c.places.order c.places.place _ less c.places.invariant.1,
    )

pub returns-clause-all : goal.returns-clause-all
returns-clause-all c = λ place less.
    subst (λ (l : List (ℕ × ℕ)). IsIn l place) (take_all c.places.place c.places.order (omega arith))
    (c.places.invariant.0 place (omega arith))

pub returns-clause-below : goal.returns-clause-below
returns-clause-below c = λ k d less.
    subst (λ (n : ℕ). (slice_index_or c.places.order k d).1 < n) c.places.auto.order (c.places.invariant.1 k d (omega arith))

use Rattle.std.proofs.Common.{◌≡◌, ℕ, map, slice_index_or, ap, ◌∙◌, subst, inl, inr, arith}
use Rattle.std.proofs.lemmas.Bool.{cases_lt}
use Rattle.share_digests.specs.Digests.{IsRightAt}
use Rattle.share_digests.proofs.Ordered.{read_there}
use Rattle.share_digests.proofs.batch.hash_each.Goals as goal

pub fours-preserved : goal.fours-preserved
fours-preserved c = λ i below less. elim (cases_lt i c.fours.index) [
  | inl before ↦ c.hash_next.ensures.kept _ (c.fours.invariant i before less)
  | inr from ↦ c.hash_next.ensures.four i from below less
]

pub returns-clause-right : goal.returns-clause-right
returns-clause-right c = λ place less.
    let there = c.requires.all place less in
    let has = there.has in
    let index = has.0 in
    let same : slice_index_or c.args.order.now index (0, 0) ≡ (there.len, place) = read_there c.args.order.now index (0, 0) (there.len, place) has.1 ∙ has.2 in
    subst (IsRightAt (map (λ part. part.now) c.args.parts.now) c.fours.digests) (ap (λ (pair : ℕ × ℕ). pair.1) same)
    (c.fours.invariant index (omega (arith, has.1)) has.1)

use Rattle.std.proofs.Common.{◌∙◌, arith}
use Rattle.std.proofs.lemmas.List.{length-set}
use Rattle.share_digests.proofs.Beside.{all_beside, none_left, one_more}
use Rattle.share_digests.proofs.parts.parts_of.Goals as goal

pub returns-in_default : goal.returns-in_default
returns-in_default c =
    none_left (λ part. part.now) c.shares.parts c.shares.rest c.args.shares.now c.shares.place (omega (arith, c.shares.invariant.0))
    c.shares.invariant.1 c.in_default.ensures.value (omega (arith, c.len-place-end.ensures))

pub shares-preserved : goal.shares-preserved
shares-preserved c = (
  length-set c.shares.parts c.shares.place c.in-Some.share ∙ c.shares.invariant.0,
  one_more (λ part. part.now) c.shares.parts c.shares.rest c.args.shares.now c.shares.place (omega (arith, c.shares.invariant.0))
      c.shares.invariant.1 c.in-Some.share c.in-Some.more c.in-Some.ensures.value (omega (arith, c.shares.invariant.0)),
)

pub returns : goal.returns
returns c =
    all_beside (λ part. part.now) c.shares.parts c.shares.rest c.args.shares.now c.shares.place (omega (arith, c.shares.invariant.0))
    c.shares.invariant.1 (omega (arith, c.len-place-end.ensures))

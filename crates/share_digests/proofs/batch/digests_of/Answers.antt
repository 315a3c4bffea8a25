use Rattle.std.proofs.Common.{◌∙◌, arith}
use Rattle.std.proofs.lemmas.List.{length-take-le}
use Rattle.share_digests.proofs.Beside.{length-parts, right_of_shares}
use Rattle.share_digests.proofs.batch.digests_of.Goals as goal

pub returns : goal.returns
returns c = λ place less.
    let count = c.len-count.result in
    let all = c.len-count.ensures in
    let long = length-parts (λ part. part.now) c.parts_of-parts.result c.args.shares.now count all c.parts_of-parts.ensures in
    right_of_shares (λ part. part.now) c.parts_of-parts.result c.args.shares.now count all c.parts_of-parts.ensures c.hash_parts.new.digests _ place
    (c.hash_parts.ensures.len ∙ length-take-le count _ (omega (arith, all))) (omega (arith, all)) (c.hash_parts.ensures.right place (omega (arith, long, all)))

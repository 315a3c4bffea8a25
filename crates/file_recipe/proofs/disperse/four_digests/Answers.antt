use Rattle.std.proofs.Common.{◌≡◌, ◌+◌, ◌<◌, ℕ, List, [], ◌∷◌, ◌∙◌, ap, arith, slice_index_or}
use Rattle.sha2.specs.Sha256.{sha256}
use Rattle.caont_rs.specs.ReedSolomon.Dispersal.{row}
use Rattle.hash_lanes.proofs.Vectors.{below_four}
use Rattle.file_recipe.proofs.disperse.four_digests.Goals as goal

-- the hash of the share at a place that is spelled another way
named : (width : ℕ) (shares digest share : List ℕ) (at place : ℕ) → digest ≡ sha256 share → share ≡ row width at shares → at ≡ place
    → digest ≡ sha256 (row width place shares)
named width shares digest share at place is row_is same = is ∙ ap sha256 (row_is ∙ ap (λ (p : ℕ). row width p shares) same)

pub returns-then-place-last : goal.returns-then-place-last
returns-then-place-last c =
    let place = c.args.place in
    let digest = c.sha256.result.0 in
    let last = c.if-place-last.true in
    below_four (λ j. place + j < c.args.end → slice_index_or (digest ∷ digest ∷ digest ∷ digest ∷ []) j [] ≡ sha256 (row c.args.width (place + j) c.args.shares.now))
    (λ lt. named c.args.width c.args.shares.now digest _ place (place + 0) c.sha256.ensures c.share_at-first.ensures (omega arith))
    (λ lt. absurd (omega (arith, last))) (λ lt. absurd (omega (arith, last))) (λ lt. absurd (omega (arith, last)))

pub returns : goal.returns
returns c =
    let place = c.args.place in
    let four = c.sha256_of_four.result in
    let is = c.sha256_of_four.ensures in
    below_four (λ j. place + j < c.args.end → slice_index_or four j [] ≡ sha256 (row c.args.width (place + j) c.args.shares.now))
    (λ lt. named c.args.width c.args.shares.now _ _ place (place + 0) is.first c.share_at-first.ensures (omega arith))
    (λ lt. named c.args.width c.args.shares.now _ _ (place + 1) (place + 1) is.second c.share_at-second.ensures (omega arith))
    (λ lt. named c.args.width c.args.shares.now _ _ c.min.result (place + 2) is.third c.share_at-third.ensures (omega (arith, c.min.ensures)))
    (λ lt. named c.args.width c.args.shares.now _ _ c.min-2.result (place + 3) is.fourth c.share_at-fourth.ensures (omega (arith, c.min-2.ensures)))

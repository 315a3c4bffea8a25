use Rattle.std.proofs.Common.{[], ◌∷◌, ◌∙◌, map}
use Rattle.std.specs.Simd.Lanes.{number_l}
use Rattle.aes256.specs.Planes.{byte_at, bit_of}
use Rattle.aes256.proofs.Spread.{spread_right}
use Rattle.aes256.proofs.planes.spread.Goals as goal

pub returns : goal.returns
unfolding byte_at
returns c = λ k p small below. (λ t. number_l 2 (map (bit_of k) (c.bit_mask-q0.ensures p below t ∷ c.bit_mask-q1.ensures p below t ∷ c.bit_mask-q2.ensures p below t ∷ c.bit_mask-q3.ensures p below t ∷ c.bit_mask-q4.ensures p below t ∷ c.bit_mask-q5.ensures p below t ∷ c.bit_mask-q6.ensures p below t ∷ c.bit_mask-q7.ensures p below t ∷ [])))
    ∙ spread_right c.args.x p k c.fits-x.1 small

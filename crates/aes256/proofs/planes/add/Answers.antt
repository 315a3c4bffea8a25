use Rattle.std.proofs.Common.{[], ◌∷◌, refl, ◌∙◌, map}
use Rattle.std.specs.Simd.Lanes.{number_l}
use Rattle.aes256.specs.Planes.{byte_at, bit_of, lanes_at}
use Rattle.aes256.proofs.Circuit.{number-xor}
use Rattle.aes256.proofs.planes.add.Goals as goal

pub returns : goal.returns
unfolding byte_at
returns c = λ k p below.
    (λ t. number_l 2 (map (bit_of k) (c.xor-q0.ensures p below t ∷ c.xor-q1.ensures p below t ∷ c.xor-q2.ensures p below t ∷ c.xor-q3.ensures p below t ∷ c.xor-q4.ensures p below t ∷ c.xor-q5.ensures p below t ∷ c.xor-q6.ensures p below t ∷ c.xor-q7.ensures p below t ∷ [])))
    ∙ number-xor k (lanes_at c.args.a p) (lanes_at c.args.b p) refl

use Rattle.std.proofs.Common.{[], ◌∷◌, map}
use Rattle.std.specs.Simd.Lanes.{number_l}
use Rattle.aes256.specs.Planes.{byte_at, bit_of}
use Rattle.aes256.proofs.rounds.up_two_all.Goals as goal

pub returns : goal.returns
unfolding byte_at
returns c = λ k p below t. number_l 2 (map (bit_of k) (c.up_two-q0.ensures p below t ∷ c.up_two-q1.ensures p below t ∷ c.up_two-q2.ensures p below t ∷ c.up_two-q3.ensures p below t ∷ c.up_two-q4.ensures p below t ∷ c.up_two-q5.ensures p below t ∷ c.up_two-q6.ensures p below t ∷ c.up_two-q7.ensures p below t ∷ []))

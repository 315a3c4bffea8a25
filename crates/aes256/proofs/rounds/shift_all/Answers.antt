use Rattle.std.proofs.Common.{[], ◌∷◌, map}
use Rattle.std.specs.Simd.Lanes.{number_l}
use Rattle.aes256.specs.Planes.{byte_at, bit_of}
use Rattle.aes256.proofs.rounds.shift_all.Goals as goal

pub returns : goal.returns
unfolding byte_at
returns c = λ k p below t. number_l 2 (map (bit_of k) (c.shift-q0.ensures p below t ∷ c.shift-q1.ensures p below t ∷ c.shift-q2.ensures p below t ∷ c.shift-q3.ensures p below t ∷ c.shift-q4.ensures p below t ∷ c.shift-q5.ensures p below t ∷ c.shift-q6.ensures p below t ∷ c.shift-q7.ensures p below t ∷ []))

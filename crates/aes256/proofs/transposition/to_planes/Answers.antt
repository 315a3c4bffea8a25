use Rattle.std.proofs.Common.{◌<◌, ℕ, ◌≡◌, ◌∙◌, arith, [], ◌∷◌}
use Rattle.std.specs.Prelude.{slice_index}
use Rattle.std.specs.Simd.Lanes.{number_l}
use Rattle.aes256.specs.Planes.{bit_of, byte_at, lanes_at, turned}
use Rattle.aes256.proofs.Transpose.{three-is, turned4-lt, turned2-lt, number-bits}
use Rattle.aes256.proofs.transposition.to_planes.Goals as goal

pub returns : goal.returns
unfolding byte_at
returns c = λ k p small below.
    let bit : (j : ℕ) → j < 8 → bit_of k (slice_index (lanes_at c.stage4.result p) j) ≡ bit_of j (slice_index (lanes_at c.args.blocks p) k) = λ j lt.
    let j4 = turned4-lt j k lt in
    let k4 = turned4-lt k j small in
    c.stage4.ensures.bits p j k below lt small
    ∙ c.stage2-two.ensures.bits p (turned 4 j k) (turned 4 k j) below j4 k4
    ∙ c.stage1-one.ensures.bits p (turned 2 (turned 4 j k) (turned 4 k j)) (turned 2 (turned 4 k j) (turned 4 j k)) below (turned2-lt _ _ j4) (turned2-lt _ _ k4)
    ∙ (λ t. bit_of (three-is k j small lt t) (slice_index (lanes_at c.args.blocks p) (three-is j k lt small t))) in
    (λ t. number_l 2 (bit 0 (omega arith) t ∷ bit 1 (omega arith) t ∷ bit 2 (omega arith) t ∷ bit 3 (omega arith) t ∷ bit 4 (omega arith) t ∷ bit 5 (omega arith) t ∷ bit 6 (omega arith) t ∷ bit 7 (omega arith) t ∷ []))
    ∙ number-bits (slice_index (lanes_at c.args.blocks p) k) (c.requires p k below small)

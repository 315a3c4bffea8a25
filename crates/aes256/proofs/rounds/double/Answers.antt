use Rattle.std.proofs.Common.{[], ◌∷◌, slice_index, refl}
use Rattle.aes256.specs.Planes.{byte_at, lanes_at}
use Rattle.aes256.proofs.Gates.{doubled}
use Rattle.aes256.proofs.rounds.double.Goals as goal

pub returns : goal.returns
unfolding byte_at
returns c = λ k p below. doubled (lanes_at c.args.s p)
    (slice_index c.xor-q1.result p ∷ slice_index c.xor-q3.result p ∷ slice_index c.xor-q4.result p ∷ [])
    refl (c.xor-q1.ensures p below, (c.xor-q3.ensures p below, (c.xor-q4.ensures p below, tt))) k

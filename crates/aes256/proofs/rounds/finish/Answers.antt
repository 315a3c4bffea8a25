use Rattle.std.proofs.Common.{ℕ, ◌∙◌, ap, bit_xor}
use Rattle.aes256.specs.Planes.{byte_at}
use Rattle.aes256.proofs.rounds.finish.Goals as goal

pub returns : goal.returns
returns c = λ k p lt. c.add.ensures k p lt
    ∙ ap (λ (x : ℕ). bit_xor x (byte_at c.args.key k p)) (c.shift_all-own.ensures k p lt)

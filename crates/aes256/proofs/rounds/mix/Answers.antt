use Rattle.std.proofs.Common.{ℕ, ◌<◌, ◌∙◌, ap, bit_xor}
use Rattle.gf256.specs.Field.{product}
use Rattle.aes256.specs.Planes.{byte_at, next_row}
use Rattle.aes256.proofs.Round.{next_row-lt}
use Rattle.aes256.proofs.rounds.mix.Goals as goal

pub returns : goal.returns
returns c = λ k p lt.
    let q : ℕ = next_row (next_row p) in
    let q_lt : q < 16 = next_row-lt (next_row p) (next_row-lt p lt) in
    let both = c.add-both.ensures k p lt ∙ (λ t. bit_xor (c.shift_all-own.ensures k p lt t) (c.shift_up_all-below.ensures k p lt t)) in
    let further = c.up_two_all-further.ensures k p lt ∙ c.add-both.ensures k q q_lt
    ∙ (λ t. bit_xor (c.shift_all-own.ensures k q q_lt t) (c.shift_up_all-below.ensures k q q_lt t)) in
    let others = c.add-others.ensures k p lt ∙ (λ t. bit_xor (c.shift_up_all-below.ensures k p lt t) (further t)) in
    let twice = c.double-twice.ensures k p lt ∙ ap (product 2) both in
    c.add.ensures k p lt
    ∙ ap (λ (x : ℕ). bit_xor x (byte_at c.args.key k p)) (c.add-sum.ensures k p lt ∙ (λ t. bit_xor (others t) (twice t)))

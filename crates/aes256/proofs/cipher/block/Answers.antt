use Rattle.std.proofs.Common.{List, ℕ, ◌≡◌, ◌∙◌, length, sym, ap, arith}
use Rattle.std.proofs.lemmas.List.{ext_get_or}
use Rattle.aes256.specs.Cipher.{key_words, cipher}
use Rattle.aes256.proofs.cipher.block.Goals as goal

pub returns : goal.returns
returns c =
    let words : List ℕ = key_words c.key.inside.bytes 52 in
    let long : length c.args.text ≡ 16 = omega arith in
    let out : length c.to_blocks-blocks.result.p0 ≡ 16 = omega arith in
    let last = c.encrypt-ciphers.ensures 0 c.args.text words (omega arith) (record { long = long; same = λ p lt. c.spread-planes.ensures 0 p (omega arith) lt }) c.key.invariant in
    ext_get_or 0 _ _ (out ∙ sym last.long) (λ p lt. c.to_blocks-blocks.ensures 0 p (omega arith) (omega (arith, out)) ∙ last.same p (omega (arith, out)))
    ∙ ap (λ (h : List ℕ). cipher h c.args.text) c.key.view_is

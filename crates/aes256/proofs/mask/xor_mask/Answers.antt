use Rattle.std.proofs.Common.{rules, ◌≡◌, ℕ, ◌+◌, ◌-◌, ◌*◌, ◌/◌, ◌%◌, ◌<◌, ◌≤◌, ◌∙◌, List, length, slice_index, arith}
use Rattle.std.proofs.lemmas.Simd.{length-chunk}
use Rattle.aes256.specs.Cipher.{key_words}
use Rattle.aes256.proofs.MaskBytes.{mask_byte, mask_at, more_low, more_high}
use Rattle.aes256.proofs.MaskLaws.{finished}
use Rattle.aes256.proofs.mask.xor_mask.Goals as goal

pub parts-preserved : goal.parts-preserved
parts-preserved c =
    let h : List ℕ = c.args.h.now in
    let i : ℕ = c.parts.i in
    let k : ℕ = 128 * i + 128 - 128 * i in
    let room : 128 * i + k ≤ length c.parts.text = omega arith in
    let part = length-chunk (128 * i) k c.parts.text room in
    let long : length c.add_mask.new.part ≡ k = c.add_mask.auto.part ∙ part in
    let masked : (q : ℕ) → q < 128 → slice_index c.bytes_of-mask.result q ≡ mask_byte h (128 * i + q) = λ q lt.
    c.bytes_of-mask.ensures q lt ∙ c.masks-blocks.ensures (q / 16) (q % 16) (key_words h 52) (omega arith) (omega arith) c.round_keys-rounds.ensures ∙ mask_at h i q in
    let sums = λ (q : ℕ) (lt : q < k). c.add_mask.ensures q (omega (arith, part)) in (
      λ q lt. more_low h c.args.text.now c.parts.text c.add_mask.new.part c.bytes_of-mask.result i k c.parts.invariant.0 c.parts.invariant.1 (omega arith) room long sums masked q (omega arith),
      λ q le. more_high h c.args.text.now c.parts.text c.add_mask.new.part c.bytes_of-mask.result i k c.parts.invariant.0 c.parts.invariant.1 (omega arith) room long sums masked q (omega arith),
    )

pub returns-then-done-text : goal.returns-then-done-text
returns-then-done-text c =
    let h : List ℕ = c.args.h.now in
    let i : ℕ = length c.args.text.now / 128 in
    let done : c.parts.i ≡ i = omega arith in
    let k : ℕ = length c.parts.text - 128 * i in
    let same : length c.parts.text ≡ length c.args.text.now = c.parts.auto.text in
    let room : 128 * i + k ≤ length c.parts.text = omega arith in
    let part = length-chunk (128 * i) k c.parts.text room in
    let long : length c.add_mask-then-done-text.new.part ≡ k = c.add_mask-then-done-text.auto.part ∙ part in
    let masked : (q : ℕ) → q < 128 → slice_index c.bytes_of-mask-then-done-text.result q ≡ mask_byte h (128 * i + q) = λ q lt.
    c.bytes_of-mask-then-done-text.ensures q lt ∙ c.masks-blocks-then-done-text.ensures (q / 16) (q % 16) (key_words h 52) (omega arith) (omega arith) c.round_keys-rounds.ensures ∙ mask_at h i q in
    let sums = λ (q : ℕ) (lt : q < k). c.add_mask-then-done-text.ensures q (omega (arith, part)) in
    finished h c.args.text.now _ c.told-h (search rules) (λ q lt. more_low h c.args.text.now c.parts.text c.add_mask-then-done-text.new.part c.bytes_of-mask-then-done-text.result i k
    (λ q lt. c.parts.invariant.0 q (omega arith)) (λ q le. c.parts.invariant.1 q (omega arith)) (omega arith) room long sums masked q (omega arith))

pub returns-else-done-text : goal.returns-else-done-text
returns-else-done-text c = finished c.args.h.now c.args.text.now c.parts.text c.told-h c.parts.auto.text (λ q lt. c.parts.invariant.0 q (omega arith))

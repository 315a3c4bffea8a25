use Rattle.std.proofs.Common.{◌≡◌, ℕ, ◌+◌, ◌<◌, ◌∙◌, List, [], ◌∷◌, sym, ap, subst, add-zero}
use Rattle.std.specs.Prelude.{slice_index}
use Rattle.aes256.specs.Mask.{counter_block}
use Rattle.aes256.specs.Planes.{IsBlock}
use Rattle.aes256.proofs.Transpose.{by_eight}
use Rattle.aes256.proofs.MaskBytes.{counter_block-lt, length-counter_block}
use Rattle.aes256.proofs.mask.masks.Goals as goal

pub to_planes-planes-requires : goal.to_planes-planes-requires
to_planes-planes-requires c = λ p j below small. by_eight (λ j. slice_index (slice_index c.counter-c0.result p ∷ slice_index c.counter-c1.result p ∷ slice_index c.counter-c2.result p ∷ slice_index c.counter-c3.result p ∷ slice_index c.counter-c4.result p ∷ slice_index c.counter-c5.result p ∷ slice_index c.counter-c6.result p ∷ slice_index c.counter-c7.result p ∷ []) j < 256)
    (subst (λ (l : List ℕ). slice_index l p < 256) (sym c.counter-c0.ensures) (counter_block-lt (c.args.i) p below))
    (subst (λ (l : List ℕ). slice_index l p < 256) (sym c.counter-c1.ensures) (counter_block-lt (c.args.i + 1) p below))
    (subst (λ (l : List ℕ). slice_index l p < 256) (sym c.counter-c2.ensures) (counter_block-lt (c.args.i + 2) p below))
    (subst (λ (l : List ℕ). slice_index l p < 256) (sym c.counter-c3.ensures) (counter_block-lt (c.args.i + 3) p below))
    (subst (λ (l : List ℕ). slice_index l p < 256) (sym c.counter-c4.ensures) (counter_block-lt (c.args.i + 4) p below))
    (subst (λ (l : List ℕ). slice_index l p < 256) (sym c.counter-c5.ensures) (counter_block-lt (c.args.i + 5) p below))
    (subst (λ (l : List ℕ). slice_index l p < 256) (sym c.counter-c6.ensures) (counter_block-lt (c.args.i + 6) p below))
    (subst (λ (l : List ℕ). slice_index l p < 256) (sym c.counter-c7.ensures) (counter_block-lt (c.args.i + 7) p below))
    j small

pub returns : goal.returns
returns c = λ k p words small below key.
    let text : List ℕ = counter_block (c.args.i + k) in
    let counted : (q : ℕ) → slice_index (slice_index c.counter-c0.result q ∷ slice_index c.counter-c1.result q ∷ slice_index c.counter-c2.result q ∷ slice_index c.counter-c3.result q ∷ slice_index c.counter-c4.result q ∷ slice_index c.counter-c5.result q ∷ slice_index c.counter-c6.result q ∷ slice_index c.counter-c7.result q ∷ []) k ≡ slice_index text q = λ q.
    by_eight (λ k. slice_index (slice_index c.counter-c0.result q ∷ slice_index c.counter-c1.result q ∷ slice_index c.counter-c2.result q ∷ slice_index c.counter-c3.result q ∷ slice_index c.counter-c4.result q ∷ slice_index c.counter-c5.result q ∷ slice_index c.counter-c6.result q ∷ slice_index c.counter-c7.result q ∷ []) k ≡ slice_index (counter_block (c.args.i + k)) q)
    (ap (λ (l : List ℕ). slice_index l q) (c.counter-c0.ensures ∙ ap counter_block (sym (add-zero c.args.i))))
    (ap (λ (l : List ℕ). slice_index l q) c.counter-c1.ensures)
    (ap (λ (l : List ℕ). slice_index l q) c.counter-c2.ensures)
    (ap (λ (l : List ℕ). slice_index l q) c.counter-c3.ensures)
    (ap (λ (l : List ℕ). slice_index l q) c.counter-c4.ensures)
    (ap (λ (l : List ℕ). slice_index l q) c.counter-c5.ensures)
    (ap (λ (l : List ℕ). slice_index l q) c.counter-c6.ensures)
    (ap (λ (l : List ℕ). slice_index l q) c.counter-c7.ensures)
    k small in
    let first : IsBlock c.to_planes-planes.result k text = record {
      long = length-counter_block (c.args.i + k);
      same = λ q lt. c.to_planes-planes.ensures k q small lt ∙ counted q;
    } in
    let last = c.encrypt-ciphers.ensures k text words small first key in
    c.to_blocks.ensures k p small below ∙ last.same p below

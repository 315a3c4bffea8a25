use Rattle.std.proofs.Common.{rules, ◌≡◌, ℕ, ◌+◌, ◌-◌, ◌*◌, ◌/◌, ◌%◌, ◌≤◌, ◌∙◌, List, length, slice_index, sym, ap, inl, inr, arith}
use Rattle.std.proofs.lemmas.Bool.{cases_lt}
use Rattle.std.proofs.lemmas.Slice.{overwrites}
use Rattle.std.proofs.lemmas.Simd.{length-chunk}
use Rattle.aes256.specs.Planes.{lanes_at}
use Rattle.aes256.proofs.MaskBytes.{put_mid-below, put_mid-at, row_at}
use Rattle.aes256.proofs.mask.bytes_of.Goals as goal

pub rows-preserved : goal.rows-preserved
rows-preserved c =
    let k : ℕ = c.rows.k in
    let n : List ℕ = c.copy_from_slice.new.self in
    let w : ℕ = 16 * k + 16 - 16 * k in
    let long : length n ≡ w = c.copy_from_slice.ensures.len ∙ length-chunk (16 * k) w c.rows.bytes (omega arith) in
    let fits : 16 * k + length n ≤ length c.rows.bytes = omega arith in (
      search (rules, overwrites),
      λ q lt. elim (cases_lt q (16 * k)) [
        | inl b ↦ put_mid-below (16 * k) w c.rows.bytes n 0 fits (sym long) q b ∙ c.rows.invariant.1 q b
        | inr g ↦
            let row : q / 16 ≡ k = omega arith in
            let lane : q - 16 * k ≡ q % 16 = omega arith in
            put_mid-at (16 * k) w c.rows.bytes n 0 fits (sym long) q g (omega arith)
            ∙ ap (λ (l : List ℕ). slice_index l (q - 16 * k)) c.copy_from_slice.ensures.after
            ∙ row_at c.args.blocks k (q - 16 * k) c.rows-test.true
            ∙ (λ t. slice_index (lanes_at c.args.blocks (lane t)) (sym row t))
      ],
    )

use Rattle.std.proofs.Common.{◌≡◌, ◌+◌, ◌*◌, ◌≤◌, ℕ, length, sym, ap, ◌∙◌, arith}
use Rattle.std.proofs.Math.Nat.{mul-le-mul_right}
use Rattle.file_recipe.proofs.disperse.unshared_files.Goals as goal

pub each_unshared-requires-clause-room : goal.each_unshared-requires-clause-room
each_unshared-requires-clause-room c =
    let width = c.share_len-width.result in
    let le : (c.args.first + c.args.clouds) * width ≤ c.args.shape.n * width = mul-le-mul_right width c.requires.within in
    let long : length c.as_slice-names.result.now ≡ c.args.shape.n * width =
    ap length c.as_slice-names.ensures ∙ c.in_ok-disperse.ensures.whole ∙ ap (λ (v : ℕ). c.args.shape.n * v) (sym c.share_len-width.ensures.value) in
    omega (arith, le, long)

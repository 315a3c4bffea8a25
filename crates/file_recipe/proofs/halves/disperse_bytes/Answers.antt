use Rattle.std.proofs.Common.{◌≡◌, ℕ, length, List, map, ap, ◌∙◌, arith}
use Rattle.std.specs.List.{range_with_len}
use Rattle.file_recipe.specs.Clouds.{dispersed}
use Rattle.file_recipe.specs.Progress.{unshared}
use Rattle.file_recipe.specs.declared.cloud_file.CloudFile.{CloudFile}
use Rattle.file_recipe.proofs.Shares.{all_dispersed, length-unshared, written_back}
use Rattle.file_recipe.proofs.halves.disperse_bytes.Goals as goal

pub add_halves-requires-clause-clouds : goal.add_halves-requires-clause-clouds
add_halves-requires-clause-clouds c =
    let len = ap (λ (xs : List CloudFile). length xs) (c.as_mut_slice.ensures.value ∙ c.in_ok-files.ensures) ∙ length-unshared c.args.shape c.args.path.now c.as_slice-2.result.now 0 c.args.shape.n in
    omega (arith, len)

pub returns : goal.returns
unfolding dispersed
returns c =
    let before : c.as_mut_slice.result.now ≡ map (λ j. unshared c.args.shape j c.args.path.now c.args.file) (range_with_len 0 c.args.shape.n) =
    c.as_mut_slice.ensures.value ∙ c.in_ok-files.ensures ∙ ap (λ (f : List ℕ). map (λ j. unshared c.args.shape j c.args.path.now f) (range_with_len 0 c.args.shape.n)) c.as_slice-2.ensures in
    let len = ap (λ (xs : List CloudFile). length xs) before ∙ length-unshared c.args.shape c.args.path.now c.args.file 0 c.args.shape.n in
    c.of.ensures
    ∙ written_back c.add_halves.new.files _ c.in_ok-files.files.len (c.add_halves.auto.files ∙ c.as_mut_slice.ensures.len)
    ∙ all_dispersed c.args.shape c.args.path.now c.args.file 0 c.args.shape.n c.as_mut_slice.result.now c.add_halves.new.files before (c.add_halves.auto.files ∙ len) c.in_ok-add_halves.ensures

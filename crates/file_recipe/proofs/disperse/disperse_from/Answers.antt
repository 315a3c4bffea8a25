use Rattle.std.proofs.Common.{ℕ, length, List, ap, ◌∙◌, subst, arith}
use Rattle.file_recipe.specs.declared.cloud_file.CloudFile.{CloudFile}
use Rattle.file_recipe.specs.Progress.{EachWithSecrets}
use Rattle.file_recipe.proofs.Parting.{whole_ends, whole_parts}
use Rattle.file_recipe.proofs.Shares.{all_dispersed, length-unshared, written_back}
use Rattle.file_recipe.proofs.disperse.disperse_from.Goals as goal

pub add_secrets-requires-clause-ends : goal.add_secrets-requires-clause-ends
add_secrets-requires-clause-ends c = whole_ends c.args.file.now c.as_slice.result.now (c.as_slice.ensures ∙ c.in_ok-ends.ensures)

pub add_secrets-requires-clause-clouds : goal.add_secrets-requires-clause-clouds
add_secrets-requires-clause-clouds c =
    let len = ap (λ (xs : List CloudFile). length xs) (c.as_mut_slice.ensures.value ∙ c.in_ok-files.ensures) ∙ length-unshared c.args.shape c.args.path.now c.args.file.now c.args.first c.args.clouds in
    omega (arith, len, c.requires.within)

pub returns : goal.returns
returns c =
    let before = c.as_mut_slice.ensures.value ∙ c.in_ok-files.ensures in
    let len = ap (λ (xs : List CloudFile). length xs) before ∙ length-unshared c.args.shape c.args.path.now c.args.file.now c.args.first c.args.clouds in
    written_back c.add_secrets.new.files _ c.in_ok-files.files.len (c.add_secrets.auto.files ∙ c.as_mut_slice.ensures.len)
    ∙ all_dispersed c.args.shape c.args.path.now c.args.file.now c.args.first c.args.clouds c.as_mut_slice.result.now c.add_secrets.new.files before (c.add_secrets.auto.files ∙ len)
    (subst (λ (ts : List (List ℕ)). EachWithSecrets c.args.shape c.args.first ts c.as_mut_slice.result.now c.add_secrets.new.files)
    (whole_parts c.args.file.now c.as_slice.result.now (c.as_slice.ensures ∙ c.in_ok-ends.ensures)) c.in_ok-add_secrets.ensures)

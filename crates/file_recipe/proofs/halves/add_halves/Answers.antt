use Rattle.std.proofs.Common.{ℕ, ◌+◌, List, length, sym, ◌∙◌, subst}
use Rattle.std.proofs.lemmas.Result.{on_ok_weaker}
use Rattle.file_recipe.specs.Progress.{AreEndsOfParts, parts_behind, EachWithSecrets}
use Rattle.file_recipe.proofs.Parting.{middle_within, front_ends, back_ends, halves_given}
use Rattle.file_recipe.proofs.halves.add_halves.Goals as goal

pub split-requires : goal.split-requires
split-requires c = middle_within c.args.file c.args.ends.now c.in_first_half-count.result c.end_of-middle.result c.requires.ends c.in_first_half-count.ensures c.end_of-middle.ensures

pub add_secrets-requires-clause-ends : goal.add_secrets-requires-clause-ends
add_secrets-requires-clause-ends c =
    subst (AreEndsOfParts (0 + length c.as_slice.result.now) 0) (sym c.split_at.ensures.front)
    (front_ends c.args.file c.args.ends.now c.as_slice.result.now c.in_first_half-count.result c.end_of-middle.result c.requires.ends c.in_first_half-count.ensures c.end_of-middle.ensures
    (c.as_slice.ensures ∙ c.in_ok-front.ensures.front))

pub add_secrets-requires-2-clause-ends : goal.add_secrets-requires-2-clause-ends
add_secrets-requires-2-clause-ends c =
    subst (AreEndsOfParts (c.end_of-middle.result + length c.as_slice-2.result.now) c.end_of-middle.result) (sym c.split_at.ensures.back)
    (back_ends c.args.file c.args.ends.now c.as_slice-2.result.now c.in_first_half-count.result c.end_of-middle.result c.requires.ends c.in_first_half-count.ensures c.end_of-middle.ensures
    (c.as_slice-2.ensures ∙ c.in_ok-front.ensures.back))

pub returns : goal.returns
returns c =
    let middle = c.end_of-middle.result in
    on_ok_weaker c.add_secrets-2.result
    (λ late. halves_given c.args.shape c.args.file c.args.ends.now c.as_slice.result.now c.as_slice-2.result.now c.in_first_half-count.result middle c.args.files.now c.add_secrets.new.files c.add_secrets-2.new.files
    c.requires.ends c.in_first_half-count.ensures c.end_of-middle.ensures (c.as_slice.ensures ∙ c.in_ok-front.ensures.front) (c.as_slice-2.ensures ∙ c.in_ok-front.ensures.back) c.add_secrets.auto.files
    (subst (λ (es : List ℕ). EachWithSecrets c.args.shape 0 (parts_behind 0 c.as_slice.result.now 0 es) c.args.files.now c.add_secrets.new.files) c.split_at.ensures.front c.in_ok-add_secrets.ensures)
    (subst (λ (es : List ℕ). EachWithSecrets c.args.shape 0 (parts_behind middle c.as_slice-2.result.now middle es) c.add_secrets.new.files c.add_secrets-2.new.files) c.split_at.ensures.back late))
    c.add_secrets-2.ensures

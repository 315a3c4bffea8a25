use Rattle.std.proofs.Common.{◌∙◌, ap, List, ℕ}
use Rattle.std.specs.Int.{w32, to_be_bytes}
use Rattle.std.specs.List.{flat_map}
use Rattle.recipe.specs.declared.items.Item.{Item}
use Rattle.recipe.specs.Spelling.{item}
use Rattle.recipe.proofs.Written.{joined}
use Rattle.recipe.proofs.writing.write_recipe.Goals as goal

pub returns : goal.returns
returns c = joined c.args.recipe.now _ _ _ _ _ (c.copy_from_slice.ensures.after ∙ c.to_be_bytes.ensures) (c.copy_from_slice-2.ensures.after ∙ c.as_slice.ensures) (c.copy_from_slice-3.ensures.after ∙ c.to_be_bytes-2.ensures)
    (c.copy_from_slice-4.ensures.after ∙ c.to_be_bytes-3.ensures ∙ ap (λ (n : ℕ). to_be_bytes w32 n) c.len-2.ensures) (c.write_items.ensures ∙ ap (λ (is : List Item). flat_map item is) c.as_slice-2.ensures)

-- The memory of no commands.
use Rattle.std.proofs.Common.{◌≡◌, ℕ, zero, suc, [], replicate, Some, None, refl, sym, ap, ◌∙◌, arith}
use Rattle.std.specs.Prelude.{true, false, is_some, option_map, slice_index_or}
use Rattle.std.specs.FinMap.{get-empty}
use Rattle.file_index.specs.Files.{key_of}
use Rattle.file_index.specs.Order.{key_cmp}
use Rattle.share_index.specs.Order.{owner_cmp, owner_of}
use Rattle.spent_table.specs.CdBase.Order.{fp_cmp}
use Rattle.spent_table.specs.CdBase.shape.Shape.{Shape}
use Rattle.spent_table.specs.Spending.{nothing as no_row}
use Rattle.cloud_areas.proofs.UserDedup.Owned.{contains_nothing}
use Rattle.cloud_memory.specs.Memory.{Remembers, IsPlacedBy, HasEnds, as_spent, summary}
use Rattle.cloud_memory.specs.Steps.{begun}

no_rows : (users : ℕ) (user : ℕ) → slice_index_or (replicate users no_row) user no_row ≡ no_row
no_rows zero user = refl
no_rows (suc users) zero = refl
no_rows (suc users) (suc user) = no_rows users user

pub none_remembered : (shape : Shape) (users region : ℕ) → Remembers shape [] (begun users region)
none_remembered shape users region = record {
  placed = λ fp. (λ e. absurd (let never : false ≡ true = sym (ap is_some (get-empty fp_cmp fp.0)) ∙ e in cc), λ c. absurd (contains_nothing fp c));
  lens = λ fp place is. absurd (let never : None ≡ Some place = sym (get-empty fp_cmp fp.0) ∙ is in cc);
  owners = λ user fp. get-empty owner_cmp (owner_of user.0 fp.0);
  files = λ user tag version. ap (option_map summary) (get-empty key_cmp (key_of user.0 tag.0 version.0));
  spent = λ user. ap as_spent (no_rows users user.0);
}

pub none_placed : (users region : ℕ) → IsPlacedBy [] (begun users region)
none_placed users region = record {
  shares = λ fp place. (λ is. absurd (let never : None ≡ Some place = sym (get-empty fp_cmp fp.0) ∙ is in cc), λ c. absurd (contains_nothing (fp, place) c));
  recipes = λ user tag version e is. absurd (let never : None ≡ Some e = sym (get-empty key_cmp (key_of user.0 tag.0 version.0)) ∙ is in cc);
}

pub ends_begun : (users region : ℕ) → HasEnds region [] [] (begun users region)
ends_begun users region = record { shares = omega arith; shares_bound = omega arith; recipes = omega arith; recipes_bound = omega arith }

use Rattle.std.proofs.Common.{length, refl}
use Rattle.subset_restore.proofs.Choices.{each_is_subset, only_choice, subset_is_one, subsets_in_order}
use Rattle.subset_restore.proofs.laws.law_of_subsets.Goals as goal

pub returns : goal.returns
returns c = record {
  each = λ k clouds rises. each_is_subset k clouds rises;
  all = λ k clouds subset rises is. subset_is_one k clouds subset rises is;
  ordered = λ k clouds rises. subsets_in_order k clouds rises;
  whole = λ clouds. only_choice (length clouds) clouds refl;
}

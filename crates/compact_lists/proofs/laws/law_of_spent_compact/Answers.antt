use Rattle.compact_lists.proofs.Keeping.{owners_less, shares_less, recipes_less}
use Rattle.compact_lists.proofs.Spent.{spent_kept, files_kept}
use Rattle.compact_lists.proofs.laws.law_of_spent_compact.Goals as goal

pub returns : goal.returns
returns c = record {
  spent = λ shape cloud list user sound. spent_kept shape cloud list sound user;
  files = λ shape cloud list user sound. files_kept shape cloud list sound user;
  owners = owners_less;
  shares = shares_less;
  recipes = recipes_less;
}

use Rattle.server_reads.specs.Found.{IsFoundShare, AreEntryBytes, HasNone, IsFoundRecipe}
use Rattle.server_reads.proofs.Plain.{known_plain, entries_plain, shares_plain, recipe_plain}
use Rattle.server_reads.proofs.laws.law_of_kinds.Goals as goal

pub returns : goal.returns
returns c = record {
  known = known_plain;
  entries = entries_plain;
  shares = λ user fps cloud m reply r. shares_plain user fps (IsFoundShare cloud m) reply r;
  recipe = λ user tag version cloud m key reply r. recipe_plain user tag version (AreEntryBytes m key) (HasNone m key) (IsFoundRecipe cloud m key) reply r;
}

use Rattle.server_reads.specs.Found.{IsFoundShare, AreEntryBytes, HasNone, IsFoundRecipe}
use Rattle.server_reads.proofs.Rotting.{shares_rotten, recipe_rotten}
use Rattle.server_reads.proofs.laws.law_of_rotten.Goals as goal

pub returns : goal.returns
returns c = record {
  shares = λ fps cloud m content named found r rot. shares_rotten fps (IsFoundShare cloud m) content named found r rot;
  recipe = λ cloud m key content named found r rot. recipe_rotten (AreEntryBytes m key) (HasNone m key) (IsFoundRecipe cloud m key) content named found r rot;
}

-- A record with what lies where its recipe is to lie.
use Rattle.std.proofs.Common.{◌≡◌, ℕ, Bool, List, [], take, drop, Result, sym, subst}
use Rattle.fresh_checkpoints.specs.CdBase.place.Place.{Place}
use Rattle.fresh_checkpoints.specs.CloudMemory.Memory.{Memory}
use Rattle.cloud_opening.specs.RecordChecks.ground.Ground.{Ground}
use Rattle.cloud_opening.specs.RecordChecks.Checks.{AsksFor}
use Rattle.cloud_opening.specs.Exact.{Recipe, Nothing}
use Rattle.store_migration.specs.declared.errors.MigrateErr.{MigrateErr}
use Rattle.store_migration.specs.Answers.{OnMigrateFault}
use Rattle.store_migration.specs.Steps.{FirstBodyAs, IsFirstOneAs}
use Rattle.store_migration.proofs.Cases.{of_all, on_answer}

module _ (g : Ground) (inside : Bool) (recipes : List ℕ) (old : Memory) (at : ℕ) (body : List ℕ) (new : Memory) (result : Result (Unit {0}) MigrateErr) where
  pub by_recipe : (place : Place) (b : List ℕ) → b ≡ body → AsksFor g inside old b place
      → OnMigrateFault result (Unit {0}) (FirstBodyAs g inside (take place.len (drop place.at recipes)) old at body new result)
      → OnMigrateFault result (Unit {0}) (IsFirstOneAs g inside recipes old at body new result)
  by_recipe place b same asks judged = on_answer result _ _ (λ is. record {
    read = take place.len (drop place.at recipes);
    reads_for = Recipe place (subst (λ (l : List ℕ). AsksFor g inside old l place) same asks);
    judged = is;
  }) judged

  pub by_nothing : (b : List ℕ) → b ≡ body → ((place : Place) → ¬ (AsksFor g inside old b place)) → FirstBodyAs g inside [] old at body new result
      → OnMigrateFault result (Unit {0}) (IsFirstOneAs g inside recipes old at body new result)
  by_nothing b same none judged = of_all result _ (record {
    read = [];
    reads_for = Nothing (λ place asks. none place (subst (λ (l : List ℕ). AsksFor g inside old l place) (sym same) asks));
    judged = judged;
  })

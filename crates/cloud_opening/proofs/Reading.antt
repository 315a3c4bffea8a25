-- A record with what lies where its recipe is to lie.
use Rattle.std.proofs.Common.{◌≡◌, ℕ, Bool, List, [], take, drop, Result, sym, subst}
use Rattle.cloud_disk.specs.CdBase.place.Place.{Place}
use Rattle.cloud_disk.specs.CommitJournal.errors.OpenErr.{OpenErr}
use Rattle.cloud_disk.specs.CommitJournal.Openings.{OnFault}
use Rattle.record_laws.specs.RecordChecks.CloudMemory.Memory.{Memory}
use Rattle.record_laws.specs.RecordChecks.ground.Ground.{Ground}
use Rattle.record_laws.specs.RecordChecks.taking.Taking.{Taking}
use Rattle.record_laws.specs.RecordChecks.Checks.{AsksFor}
use Rattle.cloud_opening.specs.Exact.{Recipe, Nothing}
use Rattle.cloud_opening.specs.Steps.{BodyAs, OneAs}
use Rattle.cloud_opening.proofs.Synced.{of_all, on_answer}

module _ (g : Ground) (inside : Bool) (recipes : List ℕ) (old : Memory) (before : Taking) (at : ℕ) (body : List ℕ) (new : Memory) (after : Taking) (result : Result (Unit {0}) OpenErr) where
  pub by_recipe : (place : Place) (b : List ℕ) → b ≡ body → AsksFor g inside old b place
      → OnFault result (Unit {0}) (BodyAs g inside (take place.len (drop place.at recipes)) old before at body new after result)
      → OnFault result (Unit {0}) (OneAs g inside recipes old before at body new after result)
  by_recipe place b same asks judged = on_answer result _ _ (λ is. record {
    read = take place.len (drop place.at recipes);
    reads_for = Recipe place (subst (λ (l : List ℕ). AsksFor g inside old l place) same asks);
    judged = is;
  }) judged

  pub by_nothing : (b : List ℕ) → b ≡ body → ((place : Place) → ¬ (AsksFor g inside old b place)) → BodyAs g inside [] old before at body new after result
      → OnFault result (Unit {0}) (OneAs g inside recipes old before at body new after result)
  by_nothing b same none judged = of_all result _ (record {
    read = [];
    reads_for = Nothing (λ place asks. none place (subst (λ (l : List ℕ). AsksFor g inside old l place) (sym same) asks));
    judged = judged;
  })

-- The last check, of both ends.
use Rattle.std.proofs.Common.{◌≡◌, ◌↔◌, ℕ, ◌+◌, ◌*◌, ◌-◌, ◌^◌, ◌<◌, ◌≤◌, min, Bool, true, false, IsTrue, IsSome, List, Option, Some, None, Result, Err, refl, sym, ◌∙◌, ap, subst, arith}
use Rattle.std.proofs.lemmas.Bool.{false≢true}
use Rattle.std.specs.List.{sum_by}
use Rattle.record_laws.specs.SpentTable.Spent.{Spent}
use Rattle.record_laws.specs.SpentTable.Spending.{reached}
use Rattle.cloud_disk.specs.CommitJournal.errors.OpenErr.{OpenErr}
use Rattle.cloud_disk.specs.CommitJournal.errors.OpenErr.TheVariants.{Damaged}
use Rattle.cloud_disk.specs.CommitJournal.Openings.{OnFault}
use Rattle.record_laws.specs.RecordChecks.CloudMemory.Memory.{Memory}
use Rattle.record_laws.specs.RecordChecks.damage.Damage.{Damage}
use Rattle.record_laws.specs.RecordChecks.ground.Ground.{Ground}
use Rattle.record_laws.specs.RecordChecks.taking.Taking.{Taking}
use Rattle.cloud_opening.specs.Exact.{Closes, Within, SharesPast, RecipesPast, shares_bound, recipes_bound}
use Rattle.cloud_opening.specs.Steps.{IsTraced, IsOfRecords}

-- what was noted, where something was
pub some_noted : (o : Option Damage) → (o ≡ None → ⊥) → IsSome o
some_noted None never = absurd (never refl)
some_noted (Some field) never = refl

pub noted_of : (o : Option Damage) → IsSome o → (field : Damage) × (o ≡ Some field)
noted_of (Some field) some = (field, refl)
noted_of None none = absurd (false≢true none)

-- a bound holds by what 64 bits reach of the sum, or not
pub reached_within : (end least sum : ℕ) → end < 2 ^ 64 → end ≤ least + 2 * min sum (2 ^ 64 - 1) → end ≤ least + 2 * sum
reached_within end least sum small is = omega (arith, is)

pub within_reached : (end least sum : ℕ) → end < 2 ^ 64 → end ≤ least + 2 * sum → end ≤ least + 2 * min sum (2 ^ 64 - 1)
within_reached end least sum small is = omega (arith, small, is)

-- a test by what 64 bits reach is one of the sum
pub fits : (b : Bool) (end given least spent : ℕ) (f : Spent → ℕ) (table rows : List Spent) → (IsTrue b ↔ (end ≤ least + 2 * spent)) → end ≡ given → end < 2 ^ 64 → spent ≡ reached f table → table ≡ rows
    → IsTrue b ↔ (given ≤ least + 2 * sum_by f rows)
fits b end given least spent f table rows is same small spent_is table_is =
    let sum : spent ≡ min (sum_by f rows) (2 ^ 64 - 1) = spent_is ∙ ap (reached f) table_is in (
      λ on. subst (λ (n : ℕ). n ≤ least + 2 * sum_by f rows) same (reached_within end least (sum_by f rows) small (subst (λ (n : ℕ). end ≤ least + 2 * n) sum (is.0 on))),
      λ le. is.1 (subst (λ (n : ℕ). end ≤ least + 2 * n) (sym sum) (within_reached end least (sum_by f rows) small (subst (λ (n : ℕ). n ≤ least + 2 * sum_by f rows) (sym same) le))),
    )

pub unfit : (b : Bool) (P : Type 0) → b ≡ false → (IsTrue b ↔ P) → P → ⊥
unfit b P off is holds = let on : b ≡ true = is.1 holds in cc

module _ (g : Ground) (m : Memory) (t : Taking) (traced : IsTraced g m t) where
  pub shares_noted : (m.shares_end ≤ shares_bound g m → ⊥) → IsSome t.shares_field
  shares_noted past = some_noted t.shares_field (λ none. past (omega (arith, traced.shares none)))

  pub recipes_noted : (m.recipes_end ≤ recipes_bound g m → ⊥) → IsSome t.recipes_field
  recipes_noted past = some_noted t.recipes_field (λ none. past (omega (arith, traced.recipes none)))

  pub shares_past : (number : ℕ) (error : OpenErr) → ((field : Damage) → t.shares_field ≡ Some field → error ≡ Damaged field.at field.byte) → (m.shares_end ≤ shares_bound g m → ⊥)
      → Closes g m t number (Err error)
  shares_past number error named past =
      let n = noted_of t.shares_field (shares_noted past) in
      subst (λ (e : OpenErr). Closes g m t number (Err e)) (sym (named n.0 n.1)) (SharesPast n.0 (omega (arith, past)) n.1)

  pub recipes_past : (number : ℕ) (error : OpenErr) → ((field : Damage) → t.recipes_field ≡ Some field → error ≡ Damaged field.at field.byte) → m.shares_end ≤ shares_bound g m
      → (m.recipes_end ≤ recipes_bound g m → ⊥) → Closes g m t number (Err error)
  recipes_past number error named fit past =
      let n = noted_of t.recipes_field (recipes_noted past) in
      subst (λ (e : OpenErr). Closes g m t number (Err e)) (sym (named n.0 n.1)) (RecipesPast n.0 fit (omega (arith, past)) n.1)

-- it makes no device call
pub closes_kind : (g : Ground) (m : Memory) (t : Taking) (number : ℕ) (result : Result ℕ OpenErr) → Closes g m t number result → IsOfRecords result
closes_kind g m t number result (Within shares recipes) = tt
closes_kind g m t number result (SharesPast field past noted) = tt
closes_kind g m t number result (RecipesPast field fit past noted) = tt

pub closes_unfailed : (g : Ground) (m : Memory) (t : Taking) (number : ℕ) (result : Result ℕ OpenErr) → Closes g m t number result → OnFault result ⊥ (Unit {0})
closes_unfailed g m t number result (Within shares recipes) = tt
closes_unfailed g m t number result (SharesPast field past noted) = tt
closes_unfailed g m t number result (RecipesPast field fit past noted) = tt

-- A rebuild to its end, from the pages that it went through.
use Rattle.std.proofs.Common.{◌≡◌, ℕ, zero, suc, ◌+◌, ◌-◌, ◌<◌, List, [], ◌∷◌, length, Result, Ok, Err, refl, subst, inl, arith}
use Rattle.std.specs.Prelude.{All, slice_index}
use Rattle.std.specs.List.{Contains}
use Rattle.std.specs.List.Sorted.{IsStrictlyIncreasing}
use Rattle.std.proofs.lemmas.List.Elements.{All-tail}
use Rattle.lane_steps.specs.CdBase.ids.UserId.{UserId}
use Rattle.lane_steps.specs.CdBase.shape.Shape.{Shape}
use Rattle.kept_files.specs.ReedSolomon.Dispersal.{AreChoice}
use Rattle.lane_steps.specs.UserDedup.Exec.{served}
use Rattle.lane_steps.specs.UserDedup.Link.{LinkTelling, Talk, serves}
use Rattle.lane_steps.proofs.UserDedup.Owned.{contains_here}
use Rattle.kept_files.proofs.RestoreJob.Leading.{may_stay}
use Rattle.rebuild.specs.declared.error.RebuildErr.{RebuildErr}
use Rattle.rebuild.specs.declared.error.RebuildErr.TheVariants as errors
use Rattle.rebuild.specs.declared.skips.Rebuilt.{Rebuilt}
use Rattle.rebuild.specs.Found.{findings}
use Rattle.rebuild.specs.Kept.{Refills}
use Rattle.rebuild.specs.Over.{HasRebuildCause, LeadsWithTarget}
use Rattle.rebuild.specs.Rebuilding.{Rebuilds, RunsTo, LeavesBut, nothing_yet}
use Rattle.rebuild.specs.Several.{whole}
use Rattle.rebuild.proofs.Bringing.{first_in, refills}
use Rattle.rebuild.proofs.Cut.{cut_by}
use Rattle.rebuild.proofs.Cutting.{goes_on}
use Rattle.rebuild.proofs.Going.{holds_as}
use Rattle.rebuild.proofs.Joining.{leads_as, then_err}
use Rattle.rebuild.proofs.Pages.{ended, stopped}
use Rattle.rebuild.proofs.Telling.{lanes_none}

abbrev done : Rebuilt → Result Rebuilt RebuildErr
done rebuilt = Ok rebuilt

abbrev failed : RebuildErr → Result Rebuilt RebuildErr
failed e = Err e

-- ---- the clouds that are read

pub rises_by : (xs : List ℕ) → IsStrictlyIncreasing xs → (t d : ℕ) → (t + 1) + d < length xs → slice_index xs t < slice_index xs ((t + 1) + d)
rises_by xs rises t zero lt = let e : t + 1 ≡ (t + 1) + 0 = omega arith in subst (λ (n : ℕ). slice_index xs t < slice_index xs n) e (rises t (omega arith))
rises_by xs rises t (suc d) lt =
    let e : ((t + 1) + d) + 1 ≡ (t + 1) + suc d = omega arith in
    let one = rises_by xs rises t d (omega arith) in
    let two = rises ((t + 1) + d) (omega arith) in
    subst (λ (n : ℕ). slice_index xs t < slice_index xs n) e (omega (arith, one, two))

pub chosen : (shape : Shape) (target : ℕ) (from : List ℕ) → length from ≡ shape.k → All (λ (cloud : ℕ). cloud < shape.n) (target ∷ from) → IsStrictlyIncreasing from → AreChoice shape from
chosen shape target from count within rises = record {
  count = count;
  within = λ t lt. All-tail (λ (cloud : ℕ). cloud < shape.n) target from within t 0 (omega (arith, count));
  apart = λ t u lt few same.
      let e : (t + 1) + (u - (t + 1)) ≡ u = omega arith in
      let below = subst (λ (n : ℕ). slice_index from t < slice_index from n) e (rises_by from rises t (u - (t + 1)) (omega (arith, count))) in
      omega (arith, same);
}

-- ---- its end

module _ {L : Type 0} (t : LinkTelling L) (talk : L → ℕ → Talk → Type 0) (target : ℕ) (from : List ℕ) (shape : Shape) (user : UserId) where
  -- over all pages
  abbrev pub PagesLead : L → L → Rebuilt → Result (Unit {0}) RebuildErr → Type 0
  PagesLead old new rebuilt result =
      LeadsWithTarget t talk target from old new result (HasRebuildCause t old shape user target result) (λ turns a at b. RunsTo shape user target (serves t old target) from (whole rebuilt result) turns a at b)

  abbrev pub WholeLeads : L → L → Result Rebuilt RebuildErr → Type 0
  WholeLeads old new result =
      LeadsWithTarget t talk target from old new result (HasRebuildCause t old shape user target result)
      (λ turns a at b. RunsTo shape user target (serves t old target) from result turns a at b × Refills shape target from user b result)

  pub whole_done : (old new : L) (rebuilt : Rebuilt) → AreChoice shape from → t.shape old ≡ shape → PagesLead old new rebuilt ended → WholeLeads old new (done rebuilt)
  whole_done old new rebuilt choice same leads =
      leads_as t talk target from old new ended (done rebuilt) (HasRebuildCause t old shape user target ended) (HasRebuildCause t old shape user target (done rebuilt))
      (λ turns a at b. RunsTo shape user target (serves t old target) from (done rebuilt) turns a at b)
      (λ turns a at b. RunsTo shape user target (serves t old target) from (done rebuilt) turns a at b × Refills shape target from user b (done rebuilt)) leads
      (λ last p q x. x) (λ turns a b x. record { caused = tt; said = tt; ended = tt; own = x.own })
      (λ turns a at b x. (
        x,
        refills shape user target (t.full old target) from turns rebuilt a b choice
            (subst (λ (s : Shape). Rebuilds shape user target (served s target (t.full old target)) from turns (done rebuilt) a b) same x),
      ))

  pub whole_failed : (old new : L) (rebuilt : Rebuilt) (e : RebuildErr) → PagesLead old new rebuilt (stopped e) → WholeLeads old new (failed e)
  whole_failed old new rebuilt e leads =
      leads_as t talk target from old new (stopped e) (failed e) (HasRebuildCause t old shape user target (stopped e)) (HasRebuildCause t old shape user target (failed e))
      (λ turns a at b. RunsTo shape user target (serves t old target) from (failed e) turns a at b)
      (λ turns a at b. RunsTo shape user target (serves t old target) from (failed e) turns a at b × Refills shape target from user b (failed e)) leads
      (λ last p q x. then_err (Unit {0}) Rebuilt t target last new p q e x) (λ turns a b x. holds_as (Unit {0}) Rebuilt t old shape user target e turns a b x) (λ turns a at b x. (x, tt))

  -- nothing was done, and memory ran out
  pub whole_none : (link : L) → length from ≡ shape.k → (Contains from target → ⊥) → WholeLeads link link (failed errors.NoMemory)
  whole_none link count apart these all before peers =
      let serve = serves t link target in
      let leaves : LeavesBut from target before before = record { read = λ cloud other. may_stay (before cloud); others = λ cloud other none. refl; counts = (may_stay (before target)).1 } in (
        before,
        [],
        link,
        before target,
        peers,
        leaves,
        (([], refl), peers target (all target (contains_here target from)), refl),
        (refl, refl),
        record { caused = tt; said = tt; ended = tt; own = lanes_none shape user target },
        λ told. (
          cut_by shape user target serve from before before [] (findings shape (λ cloud. (before cloud).list) from user) nothing_yet (before target) (before target) [] []
              (first_in shape from count) apart refl (refl, refl, refl) refl
              (goes_on shape target serve (findings shape (λ cloud. (before cloud).list) from user) nothing_yet (before target) refl)
              leaves leaves.counts (inl refl),
          tt,
        ),
      )

-- The ranges of what the lines of a session say.
use Rattle.std.proofs.Common.{◌≡◌, ℕ, ◌+◌, ◌-◌, ◌<◌, ◌≤◌, List, [], ◌∷◌, length, get_or, ◌∙◌, subst, inl, inr, arith}
use Rattle.std.specs.Prelude.{slice_index}
use Rattle.std.specs.List.{Contains}
use Rattle.std.proofs.lemmas.List.Elements.{Contains-append_cases}
use Rattle.std.proofs.lemmas.List.{get_or_default, get_or_past}
use Rattle.std.proofs.lemmas.Bool.{cases_lt}
use Rattle.session.specs.CdBase.Limits.{IsPath}
use Rattle.session.specs.CdBase.ids.UserId.{UserId}
use Rattle.session.specs.CdBase.ids.Version.{Version}
use Rattle.session.specs.CdBase.shape.Shape.{Shape}
use Rattle.rebuild.specs.ReedSolomon.Dispersal.{AreChoice}
use Rattle.subset_restore.proofs.UserDedup.Owned.{contains_cases, contains_nothing}
use Rattle.rebuild.specs.UploadJob.Upload.{FileVersion}
use Rattle.rebuild.proofs.Ended.{rises_by}
use Rattle.subset_restore.specs.Subsets.{subsets, IsSubset}
use Rattle.subset_restore.proofs.Choices.{each_is_subset}
use Rattle.subset_restore.proofs.Elements.{all_of, of_all}
use Rattle.session.specs.Scripts.{jobs_after, AreLines}
use Rattle.session.specs.Spelling.{AreClouds, AreSources, FitsEvent, IsTyped, AreLineBytes}
use Rattle.session.specs.declared.event.Event.{Event}
use Rattle.session.specs.declared.event.Event.TheVariants as events
use Rattle.session_model.specs.Steps.{version_of}
use Rattle.session_model.specs.Kept.{upload_of, uploads}

-- the version may be uploaded, and has bytes
pub record IsRanged (v : FileVersion) : Type 0 where
  pub path : IsPath v.path
  pub few : length v.file ≤ 67108864
  pub letters : (i : ℕ) → slice_index v.path i < 256
  pub bytes : (i : ℕ) → slice_index v.file i < 256

-- past their end bytes are read as 0
byte_at : (bytes : List ℕ) → AreLineBytes bytes → (i : ℕ) → slice_index bytes i < 256
byte_at bytes are i = elim (cases_lt i (length bytes)) [
  | inl within ↦ are i 0 within
  | inr past ↦ (let zero_is : slice_index bytes i ≡ 0 = get_or_past bytes i 0 past in omega arith)
]

-- ---- clouds

-- a choice of k of some clouds
pub chosen_of : (shape : Shape) (named subset : List ℕ) → AreSources shape named → IsSubset shape.k named subset → AreClouds shape subset
chosen_of shape named subset are is = record {
  count = is.count;
  rising = is.rises;
  within = all_of (λ c. c < shape.n) subset (λ x has. of_all (λ c. c < shape.n) named x are.within (of_all (Contains named) subset x is.among has));
}

pub is_chosen : (shape : Shape) (named subset : List ℕ) → AreSources shape named → Contains (subsets shape.k named) subset → IsSubset shape.k named subset
is_chosen shape named subset are has = of_all (IsSubset shape.k named) (subsets shape.k named) subset (each_is_subset shape.k named are.rising) has

pub are_choice : (shape : Shape) (clouds : List ℕ) → AreClouds shape clouds → AreChoice shape clouds
are_choice shape clouds are = record {
  count = are.count;
  within = λ t lt. are.within t 0 (omega (arith, are.count));
  apart = λ t u lt few same.
      let e : (t + 1) + (u - (t + 1)) ≡ u = omega arith in
      let below = subst (λ (n : ℕ). slice_index clouds t < slice_index clouds n) e (rises_by clouds are.rising t (u - (t + 1)) (omega (arith, are.count))) in
      omega (arith, same);
}

-- ---- lines

-- by what the first line is
upload_ranged : (shape : Shape) (jobs : ℕ) (event : Event) → FitsEvent shape jobs event → IsTyped event → (v : FileVersion) → Contains (upload_of event) v → IsRanged v
upload_ranged shape jobs (events.Upload user path version bytes) fits typed v has = elim (contains_cases (version_of user path version bytes) [] v has) [
  | inl same ↦ subst IsRanged same (record { path = fits.named; few = fits.few; letters = byte_at path typed.1; bytes = byte_at bytes typed.3 })
  | inr none ↦ absurd (contains_nothing v none)
]
upload_ranged shape jobs (events.Step job lane) fits typed v has = absurd (contains_nothing v has)
upload_ranged shape jobs (events.Lose job lane) fits typed v has = absurd (contains_nothing v has)
upload_ranged shape jobs (events.Drop job lane) fits typed v has = absurd (contains_nothing v has)
upload_ranged shape jobs (events.Finish job) fits typed v has = absurd (contains_nothing v has)
upload_ranged shape jobs (events.Get user path version clouds) fits typed v has = absurd (contains_nothing v has)
upload_ranged shape jobs (events.List user cloud) fits typed v has = absurd (contains_nothing v has)
upload_ranged shape jobs (events.Arm cloud calls keep) fits typed v has = absurd (contains_nothing v has)
upload_ranged shape jobs (events.Restart cloud) fits typed v has = absurd (contains_nothing v has)
upload_ranged shape jobs (events.Replace cloud) fits typed v has = absurd (contains_nothing v has)
upload_ranged shape jobs (events.Rebuild user target from) fits typed v has = absurd (contains_nothing v has)
upload_ranged shape jobs (events.Delete user path version cloud) fits typed v has = absurd (contains_nothing v has)

pub are_ranged : (shape : Shape) (jobs : ℕ) (script : List Event) → AreLines shape jobs script → (v : FileVersion) → Contains (uploads script) v → IsRanged v
are_ranged shape jobs [] lines v has = absurd (contains_nothing v has)
are_ranged shape jobs (event ∷ script) lines v has = elim (Contains-append_cases (upload_of event) (uploads script) v has) [
  | inl here ↦ upload_ranged shape jobs event lines.0 lines.1 v here
  | inr later ↦ are_ranged shape (jobs_after jobs event) script lines.2 v later
]

-- each line fits, where some number of uploads came before it
pub line_fits : (shape : Shape) (jobs : ℕ) (script : List Event) → AreLines shape jobs script → (event : Event) → Contains script event → (before : ℕ) × FitsEvent shape before event
line_fits shape jobs [] lines event has = absurd (contains_nothing event has)
line_fits shape jobs (first ∷ script) lines event has = elim (contains_cases first script event has) [
  | inl same ↦ (jobs, subst (FitsEvent shape jobs) same lines.0)
  | inr later ↦ line_fits shape (jobs_after jobs first) script lines.2 event later
]

-- a get names k or more different clouds
pub get_sources : (shape : Shape) (jobs : ℕ) (script : List Event) → AreLines shape jobs script → (user : UserId) (path : List ℕ) (version : Version) (named : List ℕ)
    → Contains script (events.Get user path version named) → AreSources shape named
get_sources shape jobs script lines user path version named has = (line_fits shape jobs script lines (events.Get user path version named) has).1.1

-- each of which is one of the n
pub chosen_below : (shape : Shape) (named : List ℕ) → AreChoice shape named → (cloud : ℕ) → Contains named cloud → cloud < shape.n
chosen_below shape named choice cloud has =
    let here : get_or named has.0 0 ≡ cloud = get_or_default named has.0 0 cloud has.1 ∙ has.2 in
    subst (λ (c : ℕ). c < shape.n) here (choice.within has.0 (omega (arith, choice.count, has.1)))

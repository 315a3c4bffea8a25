-- Two paths of a script without a clash of name packages have two tags.
use Rattle.std.proofs.Common.{◌≡◌, ℕ, Bool, true, false, List, [], ◌∷◌, refl, sym, ap, ◌∙◌, subst, inl, inr}
use Rattle.std.specs.Prelude.{bytes_eq}
use Rattle.std.specs.List.{Contains, flat_map}
use Rattle.std.proofs.lemmas.List.Elements.{Contains-append_cases, Contains-append_left, Contains-append_right}
use Rattle.std.proofs.lemmas.Slice.Eq.{bytes_eq-Decides}
use Rattle.session.specs.CdBase.Limits.{IsPath}
use Rattle.session.specs.CdBase.shape.Shape.{Shape}
use Rattle.subset_restore.specs.CaontRs.Package.{padded, package_of}
use Rattle.subset_restore.specs.CaontRs.Opening.{text_in}
use Rattle.subset_restore.proofs.CaontRs.Opened.{text_of_package, names_apart}
use Rattle.subset_restore.proofs.UserDedup.Owned.{contains_cases, contains_nothing, contains_here}
use Rattle.rebuild.specs.UploadJob.Upload.{FileVersion}
use Rattle.session.specs.Scripts.{AreLines}
use Rattle.session.specs.Spelling.{FitsEvent}
use Rattle.session.specs.declared.event.Event.{Event}
use Rattle.session.specs.declared.event.Event.TheVariants as events
use Rattle.session_model.specs.Steps.{version_of}
use Rattle.session_model.specs.Kept.{upload_of, uploads, paths_of, NamesPath, NamesClash}
use Rattle.session_model.proofs.Ranged.{line_fits}
use Rattle.session_model.proofs.Growing.{TagsApart}

-- a path's name package gives its padded text, and that the path
packages_apart : (s : Shape) (p q : List ℕ) → IsPath p → IsPath q → package_of s p ≡ package_of s q → p ≡ q
unfolding package_of
packages_apart s p q hp hq e =
    names_apart s p q hp.no_zero hq.no_zero (sym (text_of_package (padded s p)).1 ∙ ap (λ (bytes : List ℕ). text_in bytes) e ∙ (text_of_package (padded s q)).1)

-- ---- the paths of a script

upload_names : (event : Event) (v : FileVersion) → Contains (upload_of event) v → Contains (paths_of event) v.path
upload_names (events.Upload user path version bytes) v has = elim (contains_cases (version_of user path version bytes) [] v has) [
  | inl same ↦ subst (λ (w : FileVersion). Contains (path ∷ []) w.path) same (contains_here path [])
  | inr none ↦ absurd (contains_nothing v none)
]
upload_names (events.Step job lane) v has = absurd (contains_nothing v has)
upload_names (events.Lose job lane) v has = absurd (contains_nothing v has)
upload_names (events.Drop job lane) v has = absurd (contains_nothing v has)
upload_names (events.Finish job) v has = absurd (contains_nothing v has)
upload_names (events.Get user path version clouds) v has = absurd (contains_nothing v has)
upload_names (events.List user cloud) v has = absurd (contains_nothing v has)
upload_names (events.Arm cloud calls keep) v has = absurd (contains_nothing v has)
upload_names (events.Restart cloud) v has = absurd (contains_nothing v has)
upload_names (events.Replace cloud) v has = absurd (contains_nothing v has)
upload_names (events.Rebuild user target from) v has = absurd (contains_nothing v has)
upload_names (events.Delete user path version cloud) v has = absurd (contains_nothing v has)

uploads_name : (script : List Event) (v : FileVersion) → Contains (uploads script) v → NamesPath script v.path
uploads_name [] v has = absurd (contains_nothing v has)
uploads_name (event ∷ script) v has = elim (Contains-append_cases (upload_of event) (uploads script) v has) [
  | inl here ↦ Contains-append_left (paths_of event) (flat_map paths_of script) v.path (upload_names event v here)
  | inr later ↦ Contains-append_right (paths_of event) (flat_map paths_of script) v.path (uploads_name script v later)
]

line_names : (script : List Event) (event : Event) → Contains script event → (path : List ℕ) → Contains (paths_of event) path → NamesPath script path
line_names [] event has path named = absurd (contains_nothing event has)
line_names (first ∷ script) event has path named = elim (contains_cases first script event has) [
  | inl same ↦ Contains-append_left (paths_of first) (flat_map paths_of script) path (subst (λ (e : Event). Contains (paths_of e) path) (sym same) named)
  | inr later ↦ Contains-append_right (paths_of first) (flat_map paths_of script) path (line_names script event later path named)
]

only_path : (one path : List ℕ) → IsPath one → Contains (one ∷ []) path → IsPath path
only_path one path is has = elim (contains_cases one [] path has) [
  | inl same ↦ subst IsPath same is
  | inr none ↦ absurd (contains_nothing path none)
]

path_fits : (shape : Shape) (jobs : ℕ) (event : Event) → FitsEvent shape jobs event → (path : List ℕ) → Contains (paths_of event) path → IsPath path
path_fits shape jobs (events.Upload user p version bytes) fits path has = only_path p path fits.named has
path_fits shape jobs (events.Step job lane) fits path has = absurd (contains_nothing path has)
path_fits shape jobs (events.Lose job lane) fits path has = absurd (contains_nothing path has)
path_fits shape jobs (events.Drop job lane) fits path has = absurd (contains_nothing path has)
path_fits shape jobs (events.Finish job) fits path has = absurd (contains_nothing path has)
path_fits shape jobs (events.Get user p version clouds) fits path has = only_path p path fits.0 has
path_fits shape jobs (events.List user cloud) fits path has = absurd (contains_nothing path has)
path_fits shape jobs (events.Arm cloud calls keep) fits path has = absurd (contains_nothing path has)
path_fits shape jobs (events.Restart cloud) fits path has = absurd (contains_nothing path has)
path_fits shape jobs (events.Replace cloud) fits path has = absurd (contains_nothing path has)
path_fits shape jobs (events.Rebuild user target from) fits path has = absurd (contains_nothing path has)
path_fits shape jobs (events.Delete user p version cloud) fits path has = only_path p path fits.0 has

-- a line of the script that names the tag of an uploaded version's path names that path
pub tags_apart : (shape : Shape) (script : List Event) → AreLines shape 0 script → ¬ NamesClash shape script → (v : FileVersion) → Contains (uploads script) v → IsPath v.path
    → (event : Event) → Contains script event → TagsApart shape v event
tags_apart shape script lines apart v uploaded named event has path names same = by_test (bytes_eq (package_of shape path) (package_of shape v.path)) refl
  where
    by_test : (b : Bool) → bytes_eq (package_of shape path) (package_of shape v.path) ≡ b → path ≡ v.path
    by_test true e =
        let fits = line_fits shape 0 script lines event has in
        packages_apart shape path v.path (path_fits shape fits.0 event fits.1 path names) named ((bytes_eq-Decides (package_of shape path) (package_of shape v.path)).0 e)
    by_test false e = absurd (apart (record {
      one = path;
      other = v.path;
      first = line_names script event has path names;
      second = uploads_name script v uploaded;
      different = λ q. (let f : true ≡ false = sym ((bytes_eq-Decides (package_of shape path) (package_of shape v.path)).1 q) ∙ e in cc);
      same = same;
    }))

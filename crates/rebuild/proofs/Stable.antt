-- What is found under a key stays where the clouds that it was read from stay.
use Rattle.std.proofs.Common.{◌≡◌, ℕ, cond, List, [], ◌∷◌, map, Option, Some, Result, refl, ap, ◌∙◌}
use Rattle.std.specs.Prelude.{find, is_none, option_map, unwrap_or}
use Rattle.std.specs.List.{Contains}
use Rattle.lane_steps.specs.CdBase.ids.Tag.{Tag}
use Rattle.lane_steps.specs.CdBase.ids.UserId.{UserId}
use Rattle.lane_steps.specs.CdBase.ids.Version.{Version}
use Rattle.lane_steps.specs.CdBase.shape.Shape.{Shape}
use Rattle.lane_steps.specs.UserDedup.Cloud.{held_string}
use Rattle.lane_steps.specs.UserDedup.command.Command.{Command}
use Rattle.lane_steps.proofs.UserDedup.Owned.{contains_here, contains_later}
use Rattle.lane_steps.specs.UploadJob.Upload.{FileVersion}
use Rattle.kept_files.specs.RestoreJob.Restored
use Rattle.kept_files.specs.RestoreJob.Restored.{Unrestored, Given, no_recipe, recipe_in, given_by, missing, unless, agreed, restored_file}
use Rattle.rebuild.specs.declared.error.SkipWhy.{SkipWhy}
use Rattle.rebuild.specs.Found.{finding_under, findings, first_of, keys_in, name_opened, name_judged, version_named, unless_skipped, recipes_differ, version_under}

-- two settings of the lists say the same of these clouds
abbrev pub SameOn : List ℕ → (ℕ → List Command) → (ℕ → List Command) → Type 0
SameOn clouds one two = (cloud : ℕ) → Contains clouds cloud → two cloud ≡ one cloud

module _ (shape : Shape) (user : UserId) (key : Tag × Version) (one two : ℕ → List Command) where
  abbrev given_on : List Command → ℕ → Given
  given_on list cloud = record {
    cloud = cloud;
    recipe = unwrap_or (recipe_in shape list user key) no_recipe;
    held = λ fp. unwrap_or (held_string list fp) [];
  }

  given_same : (clouds : List ℕ) → SameOn clouds one two → map (given_by shape two user key) clouds ≡ map (given_by shape one user key) clouds
  given_same [] same = refl
  given_same (cloud ∷ clouds) same =
      let here = same cloud (contains_here cloud clouds) in
      let more = given_same clouds (λ c has. same c (contains_later cloud clouds c has)) in
      λ i. given_on (here i) cloud ∷ more i

  find_same : (clouds : List ℕ) → SameOn clouds one two
      → find (λ cloud. is_none (recipe_in shape (two cloud) user key)) clouds ≡ find (λ cloud. is_none (recipe_in shape (one cloud) user key)) clouds
  find_same [] same = refl
  find_same (cloud ∷ clouds) same =
      let here = same cloud (contains_here cloud clouds) in
      let more = find_same clouds (λ c has. same c (contains_later cloud clouds c has)) in
      λ i. cond (is_none (recipe_in shape (here i) user key)) (Some cloud) (more i)

  pub missing_same : (clouds : List ℕ) → SameOn clouds one two → missing shape two user key clouds ≡ missing shape one user key clouds
  missing_same clouds same = ap (option_map Restored.Missing) (find_same clouds same)

  abbrev by_parts : List ℕ → Option Unrestored → List Given → Result FileVersion SkipWhy
  by_parts from gone all =
      unless_skipped gone (unless_skipped (recipes_differ all)
      (version_named user key (name_judged shape key (name_opened shape all)) (unless gone (agreed shape all))))

  pub version_same : (from : List ℕ) → SameOn from one two → version_under shape two from user key ≡ version_under shape one from user key
  unfolding version_under restored_file
  version_same from same =
      let gone = find_same from same in
      let all = given_same from same in
      λ i. by_parts from (option_map Restored.Missing (gone i)) (all i)

pub findings_same : (shape : Shape) (user : UserId) (one two : ℕ → List Command) (from : List ℕ) → Contains from (first_of from) → SameOn from one two
    → findings shape two from user ≡ findings shape one from user
findings_same shape user one two from first same =
    let keys : keys_in shape (two (first_of from)) user ≡ keys_in shape (one (first_of from)) user = ap (λ (l : List Command). keys_in shape l user) (same (first_of from) first) in
    ap (map (finding_under shape two from user)) keys ∙ each (keys_in shape (one (first_of from)) user)
  where
    each : (keys : List (Tag × Version)) → map (finding_under shape two from user) keys ≡ map (finding_under shape one from user) keys
    each [] = refl
    each (key ∷ keys) =
        let here = version_same shape user key one two from same in
        let more = each keys in
        λ i. record { key = key; found = here i } ∷ more i

-- How long strings and recipes are, and that what lies in an area ends there.
use Rattle.std.proofs.Common.{◌≡◌, ℕ, ◌+◌, ◌≤◌, List, [], length, map, Option, sym, ap, subst, arith}
use Rattle.std.specs.Prelude.{take, drop, unwrap_or}
use Rattle.std.specs.List.{Contains}
use Rattle.std.proofs.lemmas.List.{length-take, length-drop}
use Rattle.cd_edges.specs.CdBase.ids.Fp.{Fp}
use Rattle.cd_edges.specs.CdBase.ids.UserId.{UserId}
use Rattle.cd_edges.specs.CdBase.shape.Shape.{Shape}
use Rattle.record_checks.specs.ContainerLog.Laying.{Placed, IsAt}
use Rattle.record_checks.specs.ContainerLog.Places.{LiesInOne}
use Rattle.record_checks.specs.Recipe.recipe.Recipe.{Recipe}
use Rattle.record_checks.specs.Recipe.Spelling.{IsRecipe}
use Rattle.record_checks.proofs.Recipe.Written.{longest}
use Rattle.record_checks.specs.RecordBody.Spelling.{Body}
use Rattle.cd_edges.specs.CdBase.place.Place.{Place}
use Rattle.record_checks.specs.UserDedup.file_list.FileEntry.{FileEntry}
use Rattle.record_checks.specs.UserDedup.Cloud.{fingerprint}
use Rattle.record_checks.specs.UserDedup.command.Command.{Command}
use Rattle.record_checks.specs.UserDedup.Dedup.{IsSound}
use Rattle.record_checks.specs.UserDedup.Cloud.{strings_of, strings_in, held_bytes, user_view}
use Rattle.record_checks.proofs.UserDedup.CompactSound.{all_fit, files_fit, share_of}
use Rattle.record_checks.proofs.UserDedup.Filtered.{from_flat}
use Rattle.record_checks.proofs.UserDedup.Views.{held_is, sent_is_held}
use Rattle.record_checks.specs.CloudAreas.Chains.{LiesIn}
use Rattle.record_checks.specs.CloudAreas.Placing.{shares_placed, recipes_placed, places_of, region_start, end_of}
use Rattle.record_checks.proofs.CloudAreas.Lists.{from_map}

-- ---- strings

-- each string that is held has a byte at least
pub string_some : (shape : Shape) (cloud : ℕ) (list : List Command) (fp : Fp) → IsSound shape cloud list → Contains (map fingerprint (strings_in list)) fp
    → 1 ≤ length (held_bytes list fp)
string_some shape cloud list fp sound sent =
    let held = sent_is_held list fp (from_map fingerprint (strings_in list) fp sent) in
    let there = (held_is list fp held.0 held.1).1 in
    let f = from_flat strings_of list held.0 there in
    let share = share_of shape f.0 held.0 (all_fit shape cloud list sound f.0 f.1).1 f.2 in
    subst (λ (o : Option (List ℕ)). 1 ≤ length (unwrap_or o [])) (sym held.1) share.0

-- ---- recipes

pub record IsSized (shape : Shape) (recipe : List ℕ) : Type 0 where
  pub some : 1 ≤ length recipe
  pub few : length recipe ≤ 1180190
  pub read : Recipe
  pub is_recipe : IsRecipe shape recipe read

pub sized : (shape : Shape) (recipe : List ℕ) → 1 ≤ length recipe → (r : Recipe) × IsRecipe shape recipe r → IsSized shape recipe
sized shape recipe some r = record {
  some = some;
  few = (let long = ap length r.1.spelled in let most = longest shape r.0 r.1.fits in omega (arith, long, most));
  read = r.0;
  is_recipe = r.1;
}

pub entry_sized : (shape : Shape) (cloud : ℕ) (list : List Command) (user : UserId) (e : FileEntry) → IsSound shape cloud list → Contains (user_view shape list user).files e
    → IsSized shape e.recipe
entry_sized shape cloud list user e sound c = let f = files_fit shape cloud list sound user e c in sized shape e.recipe f.0.1 f.1

-- ---- areas

pub inside_area : (area : List ℕ) (b : Placed) → IsAt area b → 1 ≤ length b.blob → b.place + length b.blob ≤ length area
inside_area area b is some =
    let n = length b.blob in
    let all : length (take n (drop b.place area)) ≡ n = ap length is in
    omega (arith, all, some, length-take n (drop b.place area), length-drop b.place area)

-- A place lies in the region, in one container and in the area.
pub record HasRoomIn (region area : ℕ) (p : Place) : Type 0 where
  pub starts : region_start region ≤ p.at
  pub in_one : LiesInOne p.at p.len
  pub within : end_of p ≤ area

-- The shares that a record places have room, and its recipe lies in the region.
pub record HaveRoomFor (region area : ℕ) (body : Body) : Type 0 where
  pub shares : (p : Place) → Contains (places_of (shares_placed body)) p → HasRoomIn region area p
  pub recipes : (p : Place) → Contains (recipes_placed body) p → LiesIn region p

-- What is known of a server's memory and areas where it serves a list of commands, by what each user has. Each field is a clause of a crate
-- below, or follows from two of them.
use Rattle.std.specs.Prelude.{◌≡◌, ℕ, List, length, take, drop, Option, Some, None, IsSome, All, if◌then◌else◌}
use Rattle.std.specs.List.{Contains}
use Rattle.std.specs.FinMap.{get}
use Rattle.cloud_memory.specs.CdBase.ids.Fp.{Fp}
use Rattle.cloud_memory.specs.CdBase.ids.Tag.{Tag}
use Rattle.cloud_memory.specs.CdBase.ids.UserId.{UserId}
use Rattle.cloud_memory.specs.CdBase.ids.Version.{Version}
use Rattle.cloud_memory.specs.CdBase.shape.Shape.{Shape}
use Rattle.cd_edges.specs.declared.area.Area.TheVariants.{Shares, Recipes}
use Rattle.cd_edges.specs.Disk.{Image}
use Rattle.cloud_memory.specs.FileIndex.key.Entry.{Entry}
use Rattle.cloud_memory.specs.FileIndex.Files.{key_of}
use Rattle.cloud_memory.specs.Recipe.recipe.Recipe.{Recipe}
use Rattle.cloud_memory.specs.Recipe.Spelling.{IsRecipe}
use Rattle.cloud_memory.specs.CdBase.place.Place.{Place}
use Rattle.cloud_memory.specs.ShareIndex.Order.{owner_of}
use Rattle.cloud_memory.specs.UserDedup.Cloud.{fingerprint}
use Rattle.cloud_memory.specs.UserDedup.Owning.{is_among, fps_in}
use Rattle.audit_base.specs.Whole.{Tables}

-- what each user owns, the recipe of each entry, and the string that is held under a fingerprint
pub record Views : Type 0 where
  pub own : UserId → List Fp
  pub uses : UserId → Fp → ℕ
  pub recipe : UserId → Tag → Version → Option (List ℕ)
  pub held : Fp → List ℕ

-- the entry is that of a recipe
pub record IsEntryOf (v : Views) (user : UserId) (tag : Tag) (version : Version) (e : Entry) : Type 0 where
  pub bytes : List ℕ
  pub there : v.recipe user tag version ≡ Some bytes
  pub len : e.len ≡ length bytes
  pub fp : fingerprint bytes ≡ e.fp

-- a recipe that names only what its user owns
pub record NamesOwn (shape : Shape) (own : List Fp) (bytes : List ℕ) : Type 0 where
  pub recipe : Recipe
  pub is_recipe : IsRecipe shape bytes recipe
  pub owned : All (Contains own) (fps_in recipe.items)

pub record ServedTables (shape : Shape) (image : Image) (t : Tables) (v : Views) : Type 0 where
  -- the memory is that of the list
  pub owners : (user : UserId) (fp : Fp) → get t.owners (owner_of user.0 fp.0) ≡ (if is_among (v.own user) fp then Some (v.uses user fp) else None)
  pub placed : (user : UserId) (fp : Fp) → Contains (v.own user) fp → IsSome (get t.places fp.0)
  pub lens : (fp : Fp) (place : Place) → get t.places fp.0 ≡ Some place → place.len ≡ length (v.held fp)
  pub files : (user : UserId) (tag : Tag) (version : Version) (e : Entry) → get t.files (key_of user.0 tag.0 version.0) ≡ Some e → IsEntryOf v user tag version e
  -- what is owned is held under its own SHA-256, and entries are recipes that name what their user owns
  pub held : (user : UserId) (fp : Fp) → Contains (v.own user) fp → fingerprint (v.held fp) ≡ fp
  pub names : (user : UserId) (tag : Tag) (version : Version) (bytes : List ℕ) → v.recipe user tag version ≡ Some bytes → NamesOwn shape (v.own user) bytes
  -- and both lie where the memory says
  pub strings : (fp : Fp) (place : Place) → get t.places fp.0 ≡ Some place → take (length (v.held fp)) (drop place.at (image Shares)) ≡ v.held fp
  pub entries : (user : UserId) (tag : Tag) (version : Version) (e : Entry) (bytes : List ℕ) → get t.files (key_of user.0 tag.0 version.0) ≡ Some e
      → v.recipe user tag version ≡ Some bytes → take (length bytes) (drop e.at (image Recipes)) ≡ bytes

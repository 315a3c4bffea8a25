-- What a server remembers of its blobs, and that all of them are there.
use Rattle.std.specs.Prelude.{◌≡◌, ℕ, List, length, take, drop, Some}
use Rattle.std.specs.List.{Contains}
use Rattle.std.specs.FinMap.{FinMap, get}
use Rattle.cloud_memory.specs.CdBase.ids.Fp.{Fp}
use Rattle.cloud_memory.specs.CdBase.ids.Tag.{Tag}
use Rattle.cloud_memory.specs.CdBase.ids.UserId.{UserId}
use Rattle.cloud_memory.specs.CdBase.ids.Version.{Version}
use Rattle.cloud_memory.specs.CdBase.shape.Shape.{Shape}
use Rattle.cd_edges.specs.declared.area.Area.TheVariants.{Shares, Recipes}
use Rattle.cd_edges.specs.Disk.{Image}
use Rattle.cloud_memory.specs.FileIndex.key.Entry.{Entry}
use Rattle.cloud_memory.specs.FileIndex.Files.{key_of}
use Rattle.cloud_memory.specs.FileIndex.Order.{key_cmp}
use Rattle.cloud_memory.specs.Recipe.recipe.Recipe.{Recipe}
use Rattle.cloud_memory.specs.Recipe.Spelling.{IsRecipe}
use Rattle.cloud_memory.specs.CdBase.place.Place.{Place}
use Rattle.cloud_memory.specs.CdBase.Order.{fp_cmp}
use Rattle.cloud_memory.specs.ShareIndex.Order.{owner_cmp, owner_of}
use Rattle.cloud_memory.specs.declared.cloud.CloudMemory.{CloudMemory}
use Rattle.cloud_memory.specs.UserDedup.Cloud.{fingerprint}
use Rattle.cloud_memory.specs.UserDedup.Owning.{fps_in}

-- the three maps of a server's memory: where each string lies, who owns it, and where each entry's recipe lies
pub record Tables : Type 0 where
  pub places : FinMap fp_cmp Place
  pub owners : FinMap owner_cmp ℕ
  pub files : FinMap key_cmp Entry

abbrev pub tables_of : CloudMemory → Tables
tables_of memory = record { places = memory.shares.places; owners = memory.shares.owners; files = memory.files.files }

-- the user owns the fingerprint
pub record Owns (t : Tables) (user : UserId) (fp : Fp) : Type 0 where
  pub uses : ℕ
  pub has : get t.owners (owner_of user.0 fp.0) ≡ Some uses

-- some user does
pub record IsOwned (t : Tables) (fp : Fp) : Type 0 where
  pub user : UserId
  pub owns : Owns t user fp

-- each fingerprint that some user owns has a place
abbrev pub ArePlaced : Tables → Type 0
ArePlaced t = (fp : Fp) → IsOwned t fp → (place : Place) × (get t.places fp.0 ≡ Some place)

-- what an area has from a place on, or as much of it as there is
abbrev pub stored_at : List ℕ → ℕ → ℕ → List ℕ
stored_at area at len = take len (drop at area)

-- The area has so many bytes there, and they hash to this.
pub record IsStored (area : List ℕ) (at len : ℕ) (fp : Fp) : Type 0 where
  pub full : length (stored_at area at len) ≡ len
  pub hash : fingerprint (stored_at area at len) ≡ fp

-- It is there, and is a recipe of the shape which names what the user owns.
pub record IsGood (shape : Shape) (image : Image) (t : Tables) (user : UserId) (e : Entry) : Type 0 where
  pub there : IsStored (image Recipes) e.at e.len e.fp
  pub recipe : Recipe
  pub is_recipe : IsRecipe shape (stored_at (image Recipes) e.at e.len) recipe
  pub owned : (fp : Fp) → Contains (fps_in recipe.items) fp → Owns t user fp

-- Each fingerprint that some user owns has a place, at which its bytes are. Each entry's recipe is at its place, is one, and names only what
-- its user owns.
pub record WholeNow (shape : Shape) (image : Image) (t : Tables) : Type 0 where
  pub shares : (fp : Fp) → IsOwned t fp → (place : Place) × (get t.places fp.0 ≡ Some place) × IsStored (image Shares) place.at place.len fp
  pub files : (user : UserId) (tag : Tag) (version : Version) (e : Entry) → get t.files (key_of user.0 tag.0 version.0) ≡ Some e → IsGood shape image t user e

-- Why a cloud isn't whole, as a check names it: a listed blob is short, and found is the hash of the bytes that are there; it hashes to
-- another value; it is no recipe; or it names what its user doesn't own.
pub data IsRottenNow (shape : Shape) (image : Image) (t : Tables) (named found : Fp) : Type 0 where
  Share : (place : Place) → IsOwned t named → get t.places named.0 ≡ Some place → found ≡ fingerprint (stored_at (image Shares) place.at place.len)
      → ¬ (IsStored (image Shares) place.at place.len named) → IsRottenNow shape image t named found
  File : (user : UserId) (tag : Tag) (version : Version) (e : Entry) → get t.files (key_of user.0 tag.0 version.0) ≡ Some e → e.fp ≡ named
      → found ≡ fingerprint (stored_at (image Recipes) e.at e.len) → ¬ (IsGood shape image t user e) → IsRottenNow shape image t named found

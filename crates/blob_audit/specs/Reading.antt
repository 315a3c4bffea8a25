-- What a reading of all listed blobs answers.
use Rattle.std.specs.Prelude.{◌≡◌, Result, Ok, Err, Some}
use Rattle.std.specs.FinMap.{get}
use Rattle.audit_base.specs.CdBase.ids.Fp.{Fp}
use Rattle.audit_base.specs.CdBase.ids.Tag.{Tag}
use Rattle.audit_base.specs.CdBase.ids.UserId.{UserId}
use Rattle.audit_base.specs.CdBase.ids.Version.{Version}
use Rattle.audit_base.specs.CdBase.place.Place.{Place}
use Rattle.audit_base.specs.CdBase.shape.Shape.{Shape}
use Rattle.audit_base.specs.CdEdges.area.Area.TheVariants.{Shares, Recipes}
use Rattle.audit_base.specs.CdEdges.Disk.{Image}
use Rattle.audit_base.specs.FileIndex.key.Entry.{Entry}
use Rattle.audit_base.specs.FileIndex.Files.{key_of}
use Rattle.audit_base.specs.UserDedup.Cloud.{fingerprint}
use Rattle.audit_base.specs.Whole.{Tables, IsOwned, IsGood, IsRottenNow, IsStored, stored_at}
use Rattle.blob_audit.specs.declared.errors.ReadErr.{ReadErr}
use Rattle.blob_audit.specs.declared.errors.ReadErr.TheVariants.{Fault, Rotten, NoMemory}

-- Each listed blob is stored where the tables say.
pub record AreStored (image : Image) (t : Tables) : Type 0 where
  pub shares : (fp : Fp) (place : Place) → IsOwned t fp → get t.places fp.0 ≡ Some place → IsStored (image Shares) place.at place.len fp
  pub files : (user : UserId) (tag : Tag) (version : Version) (e : Entry) → get t.files (key_of user.0 tag.0 version.0) ≡ Some e
      → IsStored (image Recipes) e.at e.len e.fp

-- A listed blob isn't stored, and what lies there hashes to this.
pub data IsUnlike (image : Image) (t : Tables) (named found : Fp) : Type 0 where
  Share : (place : Place) → IsOwned t named → get t.places named.0 ≡ Some place → found ≡ fingerprint (stored_at (image Shares) place.at place.len)
      → ¬ (IsStored (image Shares) place.at place.len named) → IsUnlike image t named found
  File : (user : UserId) (tag : Tag) (version : Version) (e : Entry) → get t.files (key_of user.0 tag.0 version.0) ≡ Some e → e.fp ≡ named
      → found ≡ fingerprint (stored_at (image Recipes) e.at e.len) → ¬ (IsStored (image Recipes) e.at e.len e.fp) → IsUnlike image t named found

-- Each listed blob is stored, and each entry's is a recipe that names only what its user owns.
pub record AreGood (shape : Shape) (image : Image) (t : Tables) : Type 0 where
  pub shares : (fp : Fp) (place : Place) → IsOwned t fp → get t.places fp.0 ≡ Some place → IsStored (image Shares) place.at place.len fp
  pub files : (user : UserId) (tag : Tag) (version : Version) (e : Entry) → get t.files (key_of user.0 tag.0 version.0) ≡ Some e
      → IsGood shape image t user e

-- by the areas
abbrev pub StoredIs : Image → Tables → Result (Unit {0}) ReadErr → Type 0
StoredIs image t (Ok u) = AreStored image t
StoredIs image t (Err Fault) = Unit {0}
StoredIs image t (Err (Rotten named found)) = IsUnlike image t named found
StoredIs image t (Err NoMemory) = Unit {0}

abbrev pub GoodIs : Shape → Image → Tables → Result (Unit {0}) ReadErr → Type 0
GoodIs shape image t (Ok u) = AreGood shape image t
GoodIs shape image t (Err Fault) = Unit {0}
GoodIs shape image t (Err (Rotten named found)) = IsRottenNow shape image t named found
GoodIs shape image t (Err NoMemory) = Unit {0}

-- one fact where a device failed, and another for every other answer
abbrev pub OnReadFault : Result (Unit {0}) ReadErr → Type 0 → Type 0 → Type 0
OnReadFault (Ok u) failed other = other
OnReadFault (Err Fault) failed other = failed
OnReadFault (Err (Rotten named found)) failed other = other
OnReadFault (Err NoMemory) failed other = other

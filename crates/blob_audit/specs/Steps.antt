-- What single readings answer, and what they leave of the shelf.
use Rattle.std.specs.Prelude.{◌≡◌, ◌⊎◌, ℕ, ◌<◌, Bool, true, false, List, ◌++◌, length, take, IsTrue, Option, Some, None, IfSome, Result, Ok, Err, IfOk, IfErr}
use Rattle.std.specs.List.{Contains}
use Rattle.sha2.specs.Hashers.{Holds256}
use Rattle.sha2.specs.declared.Sha256.{Sha256}
use Rattle.audit_base.specs.CdBase.ids.Fp.{Fp}
use Rattle.audit_base.specs.CdBase.ids.UserId.{UserId}
use Rattle.audit_base.specs.CdBase.place.Place.{Place}
use Rattle.audit_base.specs.CdBase.shape.Shape.{Shape}
use Rattle.audit_base.specs.CdEdges.area.Area.{Area}
use Rattle.audit_base.specs.CdEdges.area.Area.TheVariants.{Shares, Recipes}
use Rattle.audit_base.specs.CdEdges.Disk.{Cloud, Image, reads}
use Rattle.audit_base.specs.CdEdges.Shelf.{IsCall, HasFailed, KeepsCounts, Stays}
use Rattle.audit_base.specs.FileIndex.key.Entry.{Entry}
use Rattle.audit_base.specs.FileIndex.key.FileKey.{FileKey}
use Rattle.pool_map.specs.Slots.{slot_of}
use Rattle.audit_base.specs.Recipe.recipe.Recipe.{Recipe}
use Rattle.audit_base.specs.Recipe.Spelling.{IsRecipe}
use Rattle.audit_base.specs.UserDedup.Cloud.{fingerprint}
use Rattle.audit_base.specs.UserDedup.Owning.{fps_in}
use Rattle.audit_base.specs.CloudMemory.cloud.CloudMemory.{CloudMemory}
use Rattle.audit_base.specs.CloudMemory.Live.{live_at}
use Rattle.audit_base.specs.Whole.{Tables, Owns, stored_at, tables_of}
use Rattle.blob_audit.specs.declared.errors.ReadErr.{ReadErr}
use Rattle.blob_audit.specs.declared.errors.ReadErr.TheVariants.{Fault, Rotten, NoMemory}
use Rattle.blob_audit.specs.declared.pieces.Found.{Found}

-- ---- calls that only read

abbrev pub is_fault : ReadErr → Bool
is_fault Fault = true
is_fault (Rotten named found) = false
is_fault NoMemory = false

abbrev pub IsFault : ReadErr → Type 0
IsFault error = error ≡ Fault

abbrev pub has_fault : {A : Type 0} → Result A ReadErr → Bool
has_fault (Ok a) = false
has_fault (Err error) = is_fault error

-- memory ran out
abbrev pub is_memory : ReadErr → Bool
is_memory Fault = false
is_memory (Rotten named found) = false
is_memory NoMemory = true

abbrev pub lacks_memory : {A : Type 0} → Result A ReadErr → Bool
lacks_memory (Ok a) = false
lacks_memory (Err error) = is_memory error

abbrev pub Counted : Bool → Cloud → Cloud → ℕ → ℕ → Type 0
Counted true old new before now = HasFailed old new before now
Counted false old new before now = KeepsCounts old new before now

-- What a call that only reads answers of what the cloud reads, where that is told, and what it leaves.
pub record IsOnlyRead {A : Type 0} (P : Image → Result A ReadErr → Type 0) (old new : ℕ → Cloud) (number before now : ℕ) (result : Result A ReadErr) : Type 0 where
  pub told : IsTrue (old number).told → P (reads (old number).now) result
  pub stays : Stays (old number) (new number)
  pub call : IsCall old new number before now
  pub counts : Counted (has_fault result) (old number) (new number) before now

-- ---- bytes

-- These bytes, so many of them, are in front of a buffer.
pub record IsFrontOfBuffer (bytes : List ℕ) (count : ℕ) (out : List ℕ) : Type 0 where
  pub len : count ≡ length bytes
  pub front : take count out ≡ bytes

-- These bytes, so many of them, were hashed.
pub record IsTaken (bytes : List ℕ) (count : ℕ) (old new : Sha256) : Type 0 where
  pub len : count ≡ length bytes
  pub holds : (message : List ℕ) → Holds256 old message → Holds256 new (message ++ bytes)

-- how many bytes these are, and what they hash to
pub record AreFoundBytes (bytes : List ℕ) (found : Found) : Type 0 where
  pub len : found.len ≡ length bytes
  pub fp : found.fp ≡ fingerprint bytes

-- So many bytes are as many as the place has.
pub record IsWholeLength (area : List ℕ) (place : Place) (len : ℕ) : Type 0 where
  pub bytes : stored_at area place.at len ≡ stored_at area place.at place.len

-- ---- blobs

-- so many bytes, which hash to this
pub record IsWholeBlob (bytes : List ℕ) (len : ℕ) (fp : Fp) : Type 0 where
  pub full : length bytes ≡ len
  pub hash : fingerprint bytes ≡ fp

-- a recipe of the shape that names only what the user owns
pub record IsOwnRecipe (shape : Shape) (t : Tables) (user : UserId) (bytes : List ℕ) : Type 0 where
  pub recipe : Recipe
  pub is_recipe : IsRecipe shape bytes recipe
  pub owned : (fp : Fp) → Contains (fps_in recipe.items) fp → Owns t user fp

-- the bytes of an entry, which are such a recipe where a shape is given
pub record IsFine (shape : Option Shape) (t : Tables) (user : UserId) (e : Entry) (bytes : List ℕ) : Type 0 where
  pub whole : IsWholeBlob bytes e.len e.fp
  pub good : IfSome shape (λ s. IsOwnRecipe s t user bytes)

-- A blob that isn't fine is named, with the hash of the bytes that are there.
pub record IsBlobRefused (fine : Type 0) (fp real named found : Fp) : Type 0 where
  pub is_named : named ≡ fp
  pub is_found : found ≡ real
  pub lacks : ¬ fine

-- what is answered of a blob's bytes
abbrev pub BlobJudgedAs : Type 0 → Fp → Fp → Result (Unit {0}) ReadErr → Type 0
BlobJudgedAs fine fp real (Ok u) = fine
BlobJudgedAs fine fp real (Err Fault) = ⊥
BlobJudgedAs fine fp real (Err (Rotten named found)) = IsBlobRefused fine fp real named found
BlobJudgedAs fine fp real (Err NoMemory) = ⊥

-- the same, where a device may fail
abbrev pub BlobAs : Type 0 → Fp → Fp → Result (Unit {0}) ReadErr → Type 0
BlobAs fine fp real (Ok u) = fine
BlobAs fine fp real (Err Fault) = Unit {0}
BlobAs fine fp real (Err (Rotten named found)) = IsBlobRefused fine fp real named found
BlobAs fine fp real (Err NoMemory) = Unit {0}

-- ---- slots

-- what is told of a blob that was hashed
abbrev pub FoundRead : Area → Place → Image → Result Found ReadErr → Type 0
FoundRead area place image r = IfOk r (λ found. AreFoundBytes (stored_at (image area) place.at place.len) found)

-- what is told of a share that was read
abbrev pub PlacedRead : List ℕ → Place → Image → Result (Unit {0}) ReadErr → Type 0
PlacedRead fp place image r =
    BlobAs (IsWholeBlob (stored_at (image Shares) place.at place.len) place.len (record { 0 = fp })) (record { 0 = fp }) (fingerprint (stored_at (image Shares) place.at place.len)) r

-- what is told of an entry's recipe that was read
abbrev pub EntryRead : Option Shape → Tables → UserId → Entry → Image → Result (Unit {0}) ReadErr → Type 0
EntryRead shape t user e image r = BlobAs (IsFine shape t user e (stored_at (image Recipes) e.at e.len)) e.fp (fingerprint (stored_at (image Recipes) e.at e.len)) r

-- of what may stand in a slot of shares
abbrev pub ShareRead : Option (List ℕ × Place) → Image → Result (Unit {0}) ReadErr → Type 0
ShareRead None image r = IfErr r (λ error. ⊥)
ShareRead (Some s) image r = PlacedRead s.0 s.1 image r

-- of what may stand in a slot of entries
abbrev pub FileRead : Option Shape → Tables → Option (FileKey × Entry) → Image → Result (Unit {0}) ReadErr → Type 0
FileRead shape t None image r = IfErr r (λ error. ⊥)
FileRead shape t (Some f) image r = EntryRead shape t (record { 0 = f.0.user }) f.1 image r

-- What is answered of so many slots: all are fine, or some one ended it.
abbrev pub AllAs : ℕ → (ℕ → Result (Unit {0}) ReadErr → Type 0) → Result (Unit {0}) ReadErr → Type 0
AllAs slots Q (Ok u) = (slot : ℕ) → slot < slots → Q slot (Ok u)
AllAs slots Q (Err error) = (slot : ℕ) × Q slot (Err error)

-- of all slots
abbrev pub SharesRead : CloudMemory → Image → Result (Unit {0}) ReadErr → Type 0
SharesRead memory image r = AllAs (length memory.shares.place_slots) (λ slot. ShareRead (live_at memory.shares slot) image) r

abbrev pub FilesRead : Option Shape → CloudMemory → Image → Result (Unit {0}) ReadErr → Type 0
FilesRead shape memory image r = AllAs (length memory.files.slots) (λ slot. FileRead shape (tables_of memory) (slot_of memory.files.slots slot) image) r

-- of both tables
abbrev pub BothRead : Option Shape → CloudMemory → Image → Result (Unit {0}) ReadErr → Type 0
BothRead shape memory image (Ok u) = SharesRead memory image (Ok u) × FilesRead shape memory image (Ok u)
BothRead shape memory image (Err error) = SharesRead memory image (Err error) ⊎ FilesRead shape memory image (Err error)

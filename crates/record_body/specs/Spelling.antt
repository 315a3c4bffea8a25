-- What a record says, its one spelling, and its ranges.
use Rattle.std.specs.Prelude.{◌≡◌, ℕ, ◌<◌, ◌^◌, List, ◌∷◌, ◌++◌, length, All}
use Rattle.std.specs.List.{flat_map}
use Rattle.std.specs.Int.{w16, w32, w64, to_be_bytes}
use Rattle.message_fields.specs.CdBase.ids.UserId.{UserId}
use Rattle.message_fields.specs.Fingerprints.{IsBatch}
use Rattle.record_body.specs.declared.body.PutItem.{PutItem}
use Rattle.record_body.specs.declared.body.CommitBody.{CommitBody}
use Rattle.record_body.specs.FirstSpelling.{place_bytes, FitsPlace}
use Rattle.record_body.specs.FirstSpelling as first
use Rattle.record_body.specs.declared.body.DeleteBody.{DeleteBody}
use Rattle.record_body.specs.declared.body.KeptItem.{KeptItem}
use Rattle.record_body.specs.declared.body.SpentBody.{SpentBody}

-- What a record says: that a user's shares are stored, that a version of a user's file is entered, or that it is taken out; and in
-- a checkpoint alone where shares lie that no user owns, and what a user has spent.
pub data Body : Type 0 where
  Put : (user : UserId) (items : List PutItem) → Body
  Commit : (commit : CommitBody) → Body
  Delete : (delete : DeleteBody) → Body
  Kept : (items : List KeptItem) → Body
  Spent : (spent : SpentBody) → Body

-- a Put or a Commit
abbrev pub lifted : first.FirstBody → Body
lifted (first.Put user items) = Put user items
lifted (first.Commit commit) = Commit commit

-- ---- spelling

abbrev pub delete_fields : DeleteBody → List ℕ
delete_fields d = to_be_bytes w32 d.user.0 ++ (d.tag.0 ++ to_be_bytes w64 d.version.0)

abbrev pub kept_bytes : KeptItem → List ℕ
kept_bytes item = item.fp.0 ++ place_bytes item.place

abbrev pub kept_fields : List KeptItem → List ℕ
kept_fields items = to_be_bytes w16 (length items) ++ flat_map kept_bytes items

-- what stands before the items of a Kept
abbrev pub kept_front : ℕ → List ℕ
kept_front count = 4 ∷ to_be_bytes w16 count

abbrev pub spent_fields : SpentBody → List ℕ
spent_fields s = to_be_bytes w32 s.user.0 ++ (to_be_bytes w32 s.owners ++ (to_be_bytes w64 s.shares ++ to_be_bytes w64 s.recipes))

-- the kind, and then the fields; a Put and a Commit as they are spelled there
abbrev pub body_bytes : Body → List ℕ
body_bytes (Put user items) = first.body_bytes (first.Put user items)
body_bytes (Commit commit) = first.body_bytes (first.Commit commit)
body_bytes (Delete delete) = 3 ∷ delete_fields delete
body_bytes (Kept items) = 4 ∷ kept_fields items
body_bytes (Spent spent) = 5 ∷ spent_fields spent

-- ---- ranges

pub record FitsDelete (d : DeleteBody) : Type 0 where
  pub user : d.user.0 < 2 ^ 32
  pub tag : length d.tag.0 ≡ 32
  pub version : d.version.0 < 2 ^ 64

abbrev pub FitsKept : KeptItem → Type 0
FitsKept item = (length item.fp.0 ≡ 32) × FitsPlace item.place

pub record FitsSpent (s : SpentBody) : Type 0 where
  pub user : s.user.0 < 2 ^ 32
  pub owners : s.owners < 2 ^ 32
  pub shares : s.shares < 2 ^ 64
  pub recipes : s.recipes < 2 ^ 64

-- each field is in its range, and a Put and a Kept have 1 to 256 items
abbrev pub FitsBody : Body → Type 0
FitsBody (Put user items) = first.FitsFirstBody (first.Put user items)
FitsBody (Commit commit) = first.FitsFirstBody (first.Commit commit)
FitsBody (Delete delete) = FitsDelete delete
FitsBody (Kept items) = IsBatch items × All FitsKept items
FitsBody (Spent spent) = FitsSpent spent

-- The bytes are this body: its one spelling, and each field is in its range.
pub record IsBody (bytes : List ℕ) (b : Body) : Type 0 where
  pub fits : FitsBody b
  pub spelled : bytes ≡ body_bytes b

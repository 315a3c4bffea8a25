-- The one spelling of each body of format 1, and its ranges. Today's format spells a Put and a Commit so, too.
use Rattle.std.specs.Prelude.{◌≡◌, ℕ, ◌<◌, ◌≤◌, ◌^◌, List, [], ◌∷◌, ◌++◌, length, All, Option, Some, None}
use Rattle.std.specs.List.{flat_map}
use Rattle.std.specs.Int.{w16, w32, w64, to_be_bytes}
use Rattle.message_fields.specs.CdBase.ids.UserId.{UserId}
use Rattle.message_fields.specs.CdBase.place.Place.{Place}
use Rattle.message_fields.specs.Fingerprints.{IsBatch}
use Rattle.message_fields.specs.Shares.{share_limit}
use Rattle.record_body.specs.declared.body.PutItem.{PutItem}
use Rattle.record_body.specs.declared.body.CommitBody.{CommitBody}

-- What a record says: that a user's shares are stored, or that a version of a user's file is entered.
pub data FirstBody : Type 0 where
  Put : (user : UserId) (items : List PutItem) → FirstBody
  Commit : (commit : CommitBody) → FirstBody

-- ---- spelling

abbrev pub place_bytes : Place → List ℕ
place_bytes place = to_be_bytes w64 place.at ++ to_be_bytes w32 place.len

-- the flag, and the place behind flag 1
abbrev pub placed_bytes : Option Place → List ℕ
placed_bytes None = 0 ∷ []
placed_bytes (Some place) = 1 ∷ place_bytes place

abbrev pub item_bytes : PutItem → List ℕ
item_bytes item = item.fp.0 ++ placed_bytes item.place

-- what stands before the items
abbrev pub put_front : UserId → ℕ → List ℕ
put_front user count = 1 ∷ (to_be_bytes w32 user.0 ++ to_be_bytes w16 count)

abbrev pub commit_fields : CommitBody → List ℕ
commit_fields c = to_be_bytes w32 c.user.0 ++ (c.tag.0 ++ (to_be_bytes w64 c.version.0 ++ (to_be_bytes w64 c.at ++ (to_be_bytes w32 c.len ++ c.fp.0))))

-- the kind, and then the fields
abbrev pub body_bytes : FirstBody → List ℕ
body_bytes (Put user items) = 1 ∷ (to_be_bytes w32 user.0 ++ (to_be_bytes w16 (length items) ++ flat_map item_bytes items))
body_bytes (Commit commit) = 2 ∷ commit_fields commit

-- ---- ranges

-- a place of a share
abbrev pub FitsPlace : Place → Type 0
FitsPlace place = (place.at < 2 ^ 64) × ((1 ≤ place.len) × (place.len ≤ share_limit))

abbrev pub FitsPlaced : Option Place → Type 0
FitsPlaced None = Unit {0}
FitsPlaced (Some place) = FitsPlace place

abbrev pub FitsItem : PutItem → Type 0
FitsItem item = (length item.fp.0 ≡ 32) × FitsPlaced item.place

pub record FitsCommit (c : CommitBody) : Type 0 where
  pub user : c.user.0 < 2 ^ 32
  pub tag : length c.tag.0 ≡ 32
  pub version : c.version.0 < 2 ^ 64
  pub from : c.at < 2 ^ 64
  pub some : 1 ≤ c.len
  pub few : c.len < 2 ^ 32
  pub fp : length c.fp.0 ≡ 32

-- each field is in its range, and a Put has 1 to 256 items
abbrev pub FitsFirstBody : FirstBody → Type 0
FitsFirstBody (Put user items) = (user.0 < 2 ^ 32) × (IsBatch items × All FitsItem items)
FitsFirstBody (Commit commit) = FitsCommit commit

-- The bytes are this body: its one spelling, and each field is in its range.
pub record IsFirstBody (bytes : List ℕ) (b : FirstBody) : Type 0 where
  pub fits : FitsFirstBody b
  pub spelled : bytes ≡ body_bytes b

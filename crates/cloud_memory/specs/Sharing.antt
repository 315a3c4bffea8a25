-- What uses leave in an index of shares, and what a user owns.
use Rattle.std.specs.Prelude.{◌≡◌, ℕ, List, length, take, slice_get, All, Option, Some, None, IsSome, MatchOption}
use Rattle.std.specs.FinMap.{FinMap, get}
use Rattle.spent_table.specs.CdBase.ids.Fp.{Fp}
use Rattle.spent_table.specs.CdBase.ids.UserId.{UserId}
use Rattle.share_index.specs.Order.{owner_cmp, owner_of}
use Rattle.share_index.specs.Shares.{Shares}

-- the user owns all these fingerprints
abbrev pub AreOwned : FinMap owner_cmp ℕ → UserId → List Fp → Type 0
AreOwned owners user names = All (λ (fp : Fp). IsSome (get owners (owner_of user.0 fp.0))) names

-- At this place stands a fingerprint that the user doesn't own, and all before it are the user's.
pub record IsFirstUnowned (owners : FinMap owner_cmp ℕ) (user : UserId) (names : List Fp) (place : ℕ) : Type 0 where
  pub fp : Fp
  pub here : slice_get names place ≡ Some fp
  pub lacks : get owners (owner_of user.0 fp.0) ≡ None
  pub before : AreOwned owners user (take place names)

-- None exactly where the user owns all of them, and else the place of the first that it doesn't own
abbrev pub FindsUnowned : FinMap owner_cmp ℕ → UserId → List Fp → Option ℕ → Type 0
FindsUnowned owners user names found = MatchOption found (AreOwned owners user names) (IsFirstUnowned owners user names)

-- All but the owners and their uses is as it was.
pub record KeepsPlaces (old new : Shares) : Type 0 where
  pub places : new.places ≡ old.places
  pub fps : new.fps ≡ old.fps
  pub accounts : new.accounts ≡ old.accounts
  pub slots : length new.place_slots ≡ length old.place_slots
  pub owned : length new.owner_slots ≡ length old.owner_slots

-- The shares of a cloud and their owners, as contracts see them.
use Rattle.std.specs.Prelude.{ℕ, zero, suc, ◌^◌, ◌==◌, List, Option, count_by, unwrap_or}
use Rattle.std.specs.Ordering.{eq_by_cmp}
use Rattle.std.specs.FinMap.{FinMap, get, insert, remove, entries}
use Rattle.cd_base.specs.declared.ids.Fp.{Fp}
use Rattle.cd_base.specs.declared.ids.UserId.{UserId}
use Rattle.pool_map.specs.declared.accounts.Accounts.{Accounts}
use Rattle.pool_map.specs.Accounts.{use_for, keys_of}
use Rattle.cd_base.specs.declared.place.Place.{Place}
use Rattle.share_index.specs.declared.key.Owner.{Owner}
use Rattle.share_index.specs.Order.{owner_cmp, owner_of}
use Rattle.cd_base.specs.Order.{fp_cmp}
use Rattle.share_index.specs.Counts.{begun, sum_below}

-- the place of each fingerprint that has one, the uses of each fingerprint that a user owns, what stands in each slot, how many
-- fingerprints may have a place, and how owners are charged
pub record Shares : Type 0 where
  pub places : FinMap fp_cmp Place
  pub owners : FinMap owner_cmp ℕ
  pub place_slots : List (Option (List ℕ × Place))
  pub owner_slots : List (Option (Owner × ℕ))
  pub fps : ℕ
  pub accounts : Accounts

-- how much counts against a user's limit
abbrev pub used_by : Shares → ℕ → ℕ
used_by index user = use_for (λ k. k.user) index.accounts index.owners user

-- the uses of what an owner has
abbrev pub uses_at : FinMap owner_cmp ℕ → Owner → ℕ
uses_at owners owner = unwrap_or (get owners owner) 0

-- the owners where what an owner has, with so many uses, loses one: with the last use the owner is gone
abbrev pub with_fewer_uses : FinMap owner_cmp ℕ → Owner → ℕ → FinMap owner_cmp ℕ
with_fewer_uses owners owner zero = owners
with_fewer_uses owners owner (suc zero) = remove owners owner
with_fewer_uses owners owner (suc (suc uses)) = insert owners owner (suc uses)

-- the owners where what an owner has, if it is one, loses a use, if it has one
abbrev pub released : FinMap owner_cmp ℕ → Owner → FinMap owner_cmp ℕ
released owners owner = with_fewer_uses owners owner (uses_at owners owner)

-- how many users own a fingerprint
abbrev pub owners_of : FinMap owner_cmp ℕ → List ℕ → ℕ
owners_of owners fp = count_by (λ e. eq_by_cmp fp_cmp e.0.fp fp) (entries owners)

-- how many placed fingerprints no user owns
abbrev pub ownerless_in : FinMap fp_cmp Place → FinMap owner_cmp ℕ → ℕ
ownerless_in places owners = count_by (λ e. owners_of owners e.0 == 0) (entries places)

-- the begun 256s of each user's fingerprints, over all users
abbrev pub batches_of : FinMap owner_cmp ℕ → ℕ
batches_of owners = sum_below (2 ^ 32) (λ user. begun (keys_of (λ k. k.user) owners user))

-- an answer as a fingerprint and its place
abbrev pub place_with : Fp × Place → List ℕ × Place
place_with found = (found.0.0, found.1)

-- an answer as an owner
abbrev pub owner_with : UserId × Fp → Owner
owner_with found = owner_of found.0.0 found.1.0

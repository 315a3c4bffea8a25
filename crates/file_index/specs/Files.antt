-- The files of a cloud, as contracts see them.
use Rattle.std.specs.Prelude.{◌≡◌, ◌≢◌, ℕ, List, Option, Some, None, IsSome}
use Rattle.std.specs.declared.cmp.Ordering.TheVariants.{Less, Greater}
use Rattle.std.specs.FinMap.{FinMap, get}
use Rattle.cd_base.specs.declared.ids.Tag.{Tag}
use Rattle.cd_base.specs.declared.ids.UserId.{UserId}
use Rattle.cd_base.specs.declared.ids.Version.{Version}
use Rattle.pool_map.specs.declared.accounts.Accounts.{Accounts}
use Rattle.pool_map.specs.Accounts.{use_for}
use Rattle.file_index.specs.declared.key.FileKey.{FileKey}
use Rattle.file_index.specs.declared.key.Entry.{Entry}
use Rattle.file_index.specs.Order.{key_cmp}

-- the entry of each version of each user's files, what stands in each slot, and how the files are charged
pub record Files : Type 0 where
  pub files : FinMap key_cmp Entry
  pub slots : List (Option (FileKey × Entry))
  pub accounts : Accounts

abbrev pub key_of : ℕ → List ℕ → ℕ → FileKey
key_of user tag version = record { user = user; tag = tag; version = version }

-- how much counts against a user's limit
abbrev pub used_by : Files → ℕ → ℕ
used_by index user = use_for (λ k. k.user) index.accounts index.files user

-- the key is the user's, and above the last tag and version, if there is one
abbrev pub IsAfter : ℕ → Option (Tag × Version) → FileKey → Type 0
IsAfter user None k = k.user ≡ user
IsAfter user (Some last) k = (k.user ≡ user) × (key_cmp (key_of user last.0.0 last.1.0) k ≡ Less)

-- the tag and version are the least of the user's that come after the last ones
pub record IsNext (m : FinMap key_cmp Entry) (user : ℕ) (last : Option (Tag × Version)) (next : Tag × Version) : Type 0 where
  pub present : IsSome (get m (key_of user next.0.0 next.1.0))
  pub after : IsAfter user last (key_of user next.0.0 next.1.0)
  pub least : (k : FileKey) → IsSome (get m k) → IsAfter user last k → key_cmp (key_of user next.0.0 next.1.0) k ≢ Greater

-- nothing of the user's comes after the last tag and version
abbrev pub HasNoNext : FinMap key_cmp Entry → ℕ → Option (Tag × Version) → Type 0
HasNoNext m user last = (k : FileKey) → IsSome (get m k) → IsAfter user last k → ⊥

-- an answer as a key and its entry
abbrev pub entry_with : UserId × Tag × Version × Entry → FileKey × Entry
entry_with found = (key_of found.0.0 found.1.0 found.2.0, found.3)

-- How a sorted table keeps the files. No public clause cites this module.
use Rattle.std.specs.Prelude.{◌≡◌, ◌≢◌, ◌≤◌, ℕ, length, Option, IsSome}
use Rattle.std.specs.FinMap.{FinMap, get}
use Rattle.std.specs.declared.cmp.Ordering.TheVariants.{Greater}
use Rattle.cd_base.specs.declared.ids.Tag.{Tag}
use Rattle.cd_base.specs.declared.ids.Version.{Version}
use Rattle.pool_map.specs.SlotPool.Pool.{PoolContents}
use Rattle.pool_map.specs.declared.KeyedValue.{KeyedValue as Pair}
use Rattle.pool_map.specs.Table.{contents}
use Rattle.pool_map.specs.Shown.{shown}
use Rattle.pool_map.specs.declared.accounts.Accounts.{Accounts}
use Rattle.pool_map.specs.Accounts.{limits_of}
use Rattle.pool_map.specs.Charges.{IsCharged}
use Rattle.pool_map.specs.Slots.{shown_slots}
use Rattle.file_index.specs.declared.key.FileKey.{FileKey}
use Rattle.file_index.specs.declared.key.Entry.{Entry}
use Rattle.file_index.specs.Order.{key_cmp}
use Rattle.file_index.specs.Files.{Files, IsAfter}

-- the table's pairs without their accounts
abbrev pub files_of : PoolContents (Pair FileKey Entry) → Accounts → Files
files_of table accounts = record {
  files = shown (λ (x : ℕ × Entry). x.1) (contents key_cmp table);
  slots = shown_slots (λ (e : Entry). e) table.slots;
  accounts = accounts;
}

-- each file is charged as the accounts say, and each tag has its 32 bytes
pub record IsKept (table : PoolContents (Pair FileKey Entry)) (accounts : Accounts) : Type 0 where
  pub limits : table.limits ≡ limits_of accounts
  pub charged : IsCharged accounts (λ (k : FileKey). k.user) (contents key_cmp table)
  pub tags : (k : FileKey) → IsSome (get (contents key_cmp table) k) → length k.tag ≡ 32

-- each tag has its 32 bytes
abbrev pub HasTags : FinMap key_cmp Entry → Type 0
HasTags m = (k : FileKey) → IsSome (get m k) → length k.tag ≡ 32

-- the key is the map's least from this one on
pub record IsLeastFrom (m : FinMap key_cmp Entry) (key answer : FileKey) : Type 0 where
  pub present : IsSome (get m answer)
  pub from : key_cmp key answer ≢ Greater
  pub least : (k : FileKey) → IsSome (get m k) → key_cmp key k ≢ Greater → key_cmp answer k ≢ Greater

-- the map has no key from this one on
abbrev pub HasNoneFrom : FinMap key_cmp Entry → FileKey → Type 0
HasNoneFrom m key = (k : FileKey) → IsSome (get m k) → key_cmp key k ≡ Greater

-- a key of the map that comes next, if it is the user's, and that shows that nothing does, if it is another's
pub record IsKeyFound (m : FinMap key_cmp Entry) (user : ℕ) (last : Option (Tag × Version)) (found : FileKey) : Type 0 where
  pub present : IsSome (get m found)
  pub after : found.user ≡ user → IsAfter user last found
  pub beyond : user ≤ found.user
  pub least : (k : FileKey) → IsSome (get m k) → IsAfter user last k → key_cmp found k ≢ Greater

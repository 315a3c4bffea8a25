-- A version that is entered, and what a Commit leaves.
use Rattle.std.proofs.Common.{◌≡◌, ℕ, ◌+◌, ◌<◌, ◌≤◌, nat_lt, Bool, true, false, cond, List, fold, Option, Some, None, refl, sym, ap, ◌∙◌, arith, eq-eqb, ne_eqb, ltb-true}
use Rattle.std.specs.Prelude.{◌≢◌, max, slice_set}
use Rattle.std.specs.FinMap.{FinMap, insert}
use Rattle.spent_table.specs.CdBase.ids.Fp.{Fp}
use Rattle.spent_table.specs.CdBase.ids.UserId.{UserId}
use Rattle.spent_table.specs.CdBase.rooms.Room.TheVariants as names
use Rattle.spent_table.specs.CdBase.shape.Shape.{Shape}
use Rattle.file_index.specs.declared.key.FileKey.{FileKey}
use Rattle.file_index.specs.Files.{key_of}
use Rattle.file_index.specs.Files.{used_by as files_used}
use Rattle.file_index.specs.PoolMap.accounts.Accounts.{Accounts}
use Rattle.file_index.specs.PoolMap.Accounts.{limit_for, use_for, keys_of}
use Rattle.cloud_areas.specs.JournalStart.rooms.UserRooms.{UserRooms}
use Rattle.cloud_areas.specs.RecordBody.body.CommitBody.{CommitBody}
use Rattle.share_index.specs.Order.{owner_cmp}
use Rattle.spent_table.specs.declared.Spent.{Spent as Row}
use Rattle.spent_table.specs.Spending.{spent_by, both, of_recipe}
use Rattle.cloud_areas.specs.JournalStart.Ranges.{AreRooms}
use Rattle.cloud_areas.specs.UserDedup.command.Command.{Command}
use Rattle.cloud_areas.specs.UserDedup.Spending.{SpentByUser, nothing, refusal, limits_of, files_of, files_limit, IsWithin}
use Rattle.cloud_areas.proofs.UserDedup.Spending.{each_within}
use Rattle.cloud_areas.specs.UserDedup.Dedup.{FullRoom}
use Rattle.cloud_memory.specs.declared.cloud.CloudMemory.{CloudMemory}
use Rattle.cloud_memory.specs.Memory.{Memory}
use Rattle.cloud_memory.specs.Rooms.{memory_of, HasRooms, full_files, full_commit}
use Rattle.cloud_memory.specs.Steps.{with_use, with_commit}
use Rattle.cloud_memory.specs.Inner.{with_files}
use Rattle.cloud_memory.proofs.Taking.{none_left, refusal_none, files_small}

-- ---- rooms

abbrev full_by : ℕ → ℕ → FullRoom
full_by used limit = record { room = names.Files; used = used; need = 1; limit = limit }

abbrev by_equal : UserRooms → UserId → Memory → Bool → Option FullRoom
by_equal rooms user m b = cond b (Some (full_by (keys_of (λ (k : FileKey). k.user) m.files user.0) (files_limit rooms user))) None

pub crowded_is : (rooms : UserRooms) (user : UserId) (m : Memory) (used limit : ℕ) → used ≡ keys_of (λ (k : FileKey). k.user) m.files user.0 → limit ≡ files_limit rooms user → used ≡ limit
    → Some (full_by used limit) ≡ full_files rooms user m
crowded_is rooms user m used limit u l e =
    (λ i. Some (full_by (u i) (l i)))
    ∙ sym (ap (by_equal rooms user m) (eq-eqb (keys_of (λ (k : FileKey). k.user) m.files user.0) (files_limit rooms user) (sym u ∙ e ∙ l)))

pub roomy_is : (rooms : UserRooms) (user : UserId) (m : Memory) (used limit : ℕ) → used ≡ keys_of (λ (k : FileKey). k.user) m.files user.0 → limit ≡ files_limit rooms user → used ≢ limit
    → None ≡ full_files rooms user m
roomy_is rooms user m used limit u l other =
    sym (ap (by_equal rooms user m) (ne_eqb (keys_of (λ (k : FileKey). k.user) m.files user.0) (files_limit rooms user) (λ e. other (u ∙ e ∙ sym l))))

module _ (rooms : UserRooms) (old : CloudMemory) (has : HasRooms rooms old) (user : UserId) where
  used_is : files_used old.files user.0 ≡ keys_of (λ (k : FileKey). k.user) old.files.files user.0
  used_is = ap (λ (a : Accounts). use_for (λ (k : FileKey). k.user) a old.files.files user.0) has.files

  limit_is : limit_for old.files.accounts user.0 ≡ files_limit rooms user
  limit_is = ap (λ (a : Accounts). limit_for a user.0) has.files

  -- where no room is full, there is room for an entry
  pub has_room : (len : ℕ) → full_commit rooms user (memory_of old) len ≡ None → files_used old.files user.0 ≢ limit_for old.files.accounts user.0
  has_room len none used =
      let free = (none_left (full_files rooms user (memory_of old)) (refusal names.Recipes (spent_by old.spent user).recipes len (limits_of rooms user).recipes) none).0 in
      let full = crowded_is rooms user (memory_of old) (files_used old.files user.0) (limit_for old.files.accounts user.0) used_is limit_is used in
      let never : Some (full_by (files_used old.files user.0) (limit_for old.files.accounts user.0)) ≡ None = full ∙ free in
      cc

-- ---- what is left

-- a memory with other uses, another table and another end of the recipes
abbrev pub with_three : Memory → FinMap owner_cmp ℕ → List Row → ℕ → Memory
with_three m owners rows end = record { places = m.places; owners = owners; files = m.files; spent = rows; shares_end = m.shares_end; recipes_end = end }

-- the memory of a Commit, part by part
pub commit_taken : (old mid : CloudMemory) (c : CommitBody) (fps : List Fp) (owners : FinMap owner_cmp ℕ) (rows : List Row) (end : ℕ)
    → memory_of mid ≡ with_files (memory_of old) (insert old.files.files (key_of c.user.0 c.tag.0 c.version.0) (record { at = c.at; len = c.len; fp = c.fp }))
    → owners ≡ fold (with_use c.user) mid.shares.owners fps
    → rows ≡ slice_set mid.spent c.user.0 (both (spent_by mid.spent c.user) (of_recipe c.len))
    → end ≡ max mid.recipes_end (c.at + c.len)
    → with_three (memory_of mid) owners rows end ≡ with_commit fps c (memory_of old)
commit_taken old mid c fps owners rows end entered o r e =
    (λ i. with_three (memory_of mid) (o i) (r i) (e i))
    ∙ ap (λ (m : Memory). with_three m (fold (with_use c.user) m.owners fps) (slice_set m.spent c.user.0 (both (spent_by m.spent c.user) (of_recipe c.len))) (max m.recipes_end (c.at + c.len))) entered

-- ---- a Commit that fits

-- where the recipe has some bytes, and its room isn't full
pub record Roomy (rooms : UserRooms) (old : CloudMemory) (user : UserId) (len : ℕ) : Type 0 where
  pub place : user.0 < rooms.users
  pub recipes : (spent_by old.spent user).recipes + len ≤ rooms.recipes

pub roomy : (rooms : UserRooms) (old : CloudMemory) (user : UserId) (len : ℕ) → 1 ≤ len → full_commit rooms user (memory_of old) len ≡ None → Roomy rooms old user len
roomy rooms old user len some none =
    let left = none_left (full_files rooms user (memory_of old)) (refusal names.Recipes (spent_by old.spent user).recipes len (limits_of rooms user).recipes) none in
    let fits = refusal_none names.Recipes (spent_by old.spent user).recipes len (limits_of rooms user).recipes left.1 in
    by_limit (nat_lt user.0 rooms.users) refl fits
  where
    limit_by : Bool → ℕ
    limit_by b = (cond {A = SpentByUser} b (record { owners = rooms.owners; shares = rooms.shares; recipes = rooms.recipes }) nothing).recipes

    by_limit : (b : Bool) → nat_lt user.0 rooms.users ≡ b → (spent_by old.spent user).recipes + len ≤ (limits_of rooms user).recipes → Roomy rooms old user len
    by_limit true is fits =
        let limit : (limits_of rooms user).recipes ≡ rooms.recipes = ap limit_by is in
        record { place = ltb-true user.0 rooms.users is; recipes = omega (arith, fits, limit) }
    by_limit false is fits =
        let limit : (limits_of rooms user).recipes ≡ 0 = ap limit_by is in
        absurd (omega (arith, fits, limit, some))

-- a list within the rooms has few entries of a user
pub few_files : (shape : Shape) (rooms : UserRooms) (list : List Command) (user : UserId) → AreRooms rooms → IsWithin shape rooms list → files_of shape list user ≤ 16384
few_files shape rooms list user are within =
    let each = (each_within shape rooms list user within).files in
    let small = files_small rooms are in
    by_test (nat_lt user.0 rooms.users) refl each small
  where
    by_test : (b : Bool) → nat_lt user.0 rooms.users ≡ b → files_of shape list user ≤ files_limit rooms user → rooms.files ≤ 16384 → files_of shape list user ≤ 16384
    by_test true is each small = let limit : files_limit rooms user ≡ rooms.files = ap (λ (b : Bool). cond b rooms.files 0) is in omega (arith, each, small, limit)
    by_test false is each small = let limit : files_limit rooms user ≡ 0 = ap (λ (b : Bool). cond b rooms.files 0) is in omega (arith, each, limit)

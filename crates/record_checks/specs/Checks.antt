-- The checks of a record against what is remembered, and the place in its body of the first field that fails.
use Rattle.std.specs.Prelude.{◌≡◌, ◌≢◌, ◌⊎◌, ◌↔◌, ℕ, ◌+◌, ◌-◌, ◌*◌, ◌≤◌, Bool, true, false, IsTrue, List, [], ◌∷◌, length, slice_index, slice_index_or, Option, Some, None, IsSome, IfSome, Ok, if◌then◌else◌}
use Rattle.std.specs.FinMap.{get, len}
use Rattle.std.specs.Int.{w32, to_be_bytes}
use Rattle.cloud_memory.specs.CdBase.Limits.{recipe_limit}
use Rattle.cloud_memory.specs.CdBase.ids.Fp.{Fp}
use Rattle.cloud_memory.specs.CdBase.ids.UserId.{UserId}
use Rattle.cloud_memory.specs.CdBase.shape.Shape.{Shape}
use Rattle.cloud_memory.specs.ContainerLog.Places.{LiesInOne}
use Rattle.cloud_memory.specs.FileIndex.key.Entry.{Entry}
use Rattle.cloud_memory.specs.FileIndex.Files.{key_of}
use Rattle.cloud_memory.specs.PoolMap.Accounts.{keys_of}
use Rattle.cloud_memory.specs.Recipe.recipe.Recipe.{Recipe}
use Rattle.cloud_memory.specs.Recipe.Spelling.{IsRecipe}
use Rattle.cloud_memory.specs.RecordBody.Reading.{body_at}
use Rattle.cloud_memory.specs.RecordBody.Spelling.{Body, Commit, Delete}
use Rattle.cloud_memory.specs.RecordBody.body.DeleteBody.{DeleteBody}
use Rattle.cloud_memory.specs.RecordBody.body.KeptItem.{KeptItem}
use Rattle.cloud_memory.specs.RecordBody.body.SpentBody.{SpentBody}
use Rattle.cloud_memory.specs.RecordBody.body.BodyErr.{BodyErr}
use Rattle.cloud_memory.specs.RecordBody.body.BodyErr.TheVariants as errors
use Rattle.cloud_memory.specs.RecordBody.body.CommitBody.{CommitBody}
use Rattle.cloud_memory.specs.RecordBody.body.PutItem.{PutItem}
use Rattle.cloud_memory.specs.RecordBody.FirstSpelling.{item_bytes}
use Rattle.cloud_memory.specs.CdBase.place.Place.{Place}
use Rattle.cloud_memory.specs.ShareIndex.Order.{owner_of}
use Rattle.cloud_memory.specs.SpentTable.Spending.{spent_by}
use Rattle.cloud_memory.specs.UserDedup.Cloud.{fingerprint}
use Rattle.cloud_memory.specs.UserDedup.Requests.{fps_of}
use Rattle.cloud_memory.specs.UserDedup.Spending.{limits_of, files_limit}
use Rattle.cloud_memory.specs.CloudAreas.Placing.{region_start, end_of}
use Rattle.cloud_memory.specs.Memory.{Memory}
use Rattle.cloud_memory.specs.Sharing.{AreOwned}
use Rattle.cloud_memory.specs.Steps.{with_item, with_kept, spends, spent_on}
use Rattle.record_checks.specs.declared.damage.Damage.{Damage}
use Rattle.record_checks.specs.declared.ground.Ground.{Ground}
use Rattle.cloud_memory.specs.SpentTable.Spent.{Spent}

-- ---- the bytes of a body that begins at a place of the journal

-- the journal is damaged at this byte of the body
abbrev pub damaged_at : ℕ → List ℕ → ℕ → Damage
damaged_at at body place = record { at = at + place; byte = slice_index body place }

-- A field that breaks the grammar is damaged at its first byte, a body with bytes left over at the first of them, and one that is too
-- short at the first byte of its length, which stands in 4 bytes before it.
abbrev pub body_fault : ℕ → List ℕ → BodyErr → Damage
body_fault at body (errors.Field place) = damaged_at at body place
body_fault at body errors.Short = record { at = at - 4; byte = slice_index (to_be_bytes w32 (length body)) 0 }
body_fault at body (errors.Extra place) = damaged_at at body place

-- a body begins with the kind of a record that stands in a checkpoint alone
abbrev pub IsOfCheckpoint : List ℕ → Type 0
IsOfCheckpoint [] = ⊥
IsOfCheckpoint (kind ∷ fields) = (kind ≡ 4) ⊎ (kind ≡ 5)

-- ---- the places of fields in a body

-- the user of a Put, a Commit or a Spent, and the number of items of a Kept
abbrev pub first_field : ℕ
first_field = 1

-- the first item of a Put, and of a Kept
abbrev pub put_items : ℕ
put_items = 7

abbrev pub kept_items : ℕ
kept_items = 3

-- the tag of a Commit or a Delete, and a Commit's place and its recipe's fingerprint
abbrev pub tag_at : ℕ
tag_at = 5

abbrev pub place_at : ℕ
place_at = 45

abbrev pub recipe_fp_at : ℕ
recipe_fp_at = 57

-- ---- places

-- A blob lies in the region that begins at first, in one container and in the area; and behind the checkpoint also behind the end so far.
pub record Lies (inside : Bool) (first end area : ℕ) (p : Place) : Type 0 where
  pub behind : IsTrue inside ⊎ (end ≤ p.at)
  pub region : first ≤ p.at
  pub in_one : LiesInOne p.at p.len
  pub within : end_of p ≤ area

abbrev pub ShareLies : Ground → Bool → Memory → Place → Type 0
ShareLies g inside m p = Lies inside (region_start g.region) m.shares_end g.shares_len p

abbrev pub RecipeLies : Ground → Bool → Memory → CommitBody → Type 0
RecipeLies g inside m c =
    (c.len ≤ recipe_limit) × Lies inside (region_start g.region) m.recipes_end g.recipes_len (record { at = c.at; len = c.len })

-- ---- a share of a Put

abbrev pub IsOwn : Memory → UserId → Fp → Type 0
IsOwn m user fp = IsSome (get m.owners (owner_of user.0 fp.0))

-- the record gives the share a place exactly where its fingerprint has none
abbrev pub IsFlagged : Memory → PutItem → Type 0
IsFlagged m item = IsSome item.place ↔ (get m.places item.fp.0 ≡ None)

-- No check of the share fails.
pub record IsRightItem (g : Ground) (inside : Bool) (m : Memory) (user : UserId) (item : PutItem) : Type 0 where
  pub new : ¬ (IsOwn m user item.fp)
  pub flagged : IsFlagged m item
  pub lies : IfSome item.place (ShareLies g inside m)

-- The first check of a share that fails, where its item begins at a place of the body, and the place of its field: the fingerprint is the
-- user's own already, the flag is wrong, or the place.
pub data ItemFault (g : Ground) (inside : Bool) (m : Memory) (user : UserId) (item : PutItem) (from : ℕ) : ℕ → Type 0 where
  Owned : IsOwn m user item.fp → ItemFault g inside m user item from from
  Flag : ¬ (IsOwn m user item.fp) → ¬ (IsFlagged m item) → ItemFault g inside m user item from (from + 32)
  Misplaced : ¬ (IsOwn m user item.fp) → IsFlagged m item → ¬ (IfSome item.place (ShareLies g inside m))
      → ItemFault g inside m user item from (from + 33)

-- No check of the shares fails, each with those before it taken.
abbrev pub AreRight : Ground → Bool → UserId → Memory → List PutItem → Type 0
AreRight g inside user m [] = Unit {0}
AreRight g inside user m (item ∷ items) = IsRightItem g inside m user item × AreRight g inside user (with_item user m item) items

-- The first share at which a check fails, where the first item begins at a place of the body, and the place of its field.
pub data ItemsFault (g : Ground) (inside : Bool) (user : UserId) : Memory → ℕ → List PutItem → ℕ → Type 0 where
  Here : (m : Memory) (from : ℕ) (item : PutItem) (items : List PutItem) (place : ℕ) → ItemFault g inside m user item from place
      → ItemsFault g inside user m from (item ∷ items) place
  Later : (m : Memory) (from : ℕ) (item : PutItem) (items : List PutItem) (place : ℕ) → IsRightItem g inside m user item
      → ItemsFault g inside user (with_item user m item) (from + length (item_bytes item)) items place
      → ItemsFault g inside user m from (item ∷ items) place

-- ---- a share that no user owns

-- No check of the share fails.
pub record IsRightKept (g : Ground) (inside : Bool) (m : Memory) (item : KeptItem) : Type 0 where
  pub new : get m.places item.fp.0 ≡ None
  pub lies : ShareLies g inside m item.place

-- the first check that fails: its fingerprint has a place already, or its own place is wrong
pub data KeptFault (g : Ground) (inside : Bool) (m : Memory) (item : KeptItem) (from : ℕ) : ℕ → Type 0 where
  PlacedTwice : IsSome (get m.places item.fp.0) → KeptFault g inside m item from from
  KeptMisplaced : get m.places item.fp.0 ≡ None → ¬ (ShareLies g inside m item.place) → KeptFault g inside m item from (from + 32)

abbrev pub AreRightKepts : Ground → Bool → Memory → List KeptItem → Type 0
AreRightKepts g inside m [] = Unit {0}
AreRightKepts g inside m (item ∷ items) = IsRightKept g inside m item × AreRightKepts g inside (with_kept m item) items

pub data KeptsFault (g : Ground) (inside : Bool) : Memory → ℕ → List KeptItem → ℕ → Type 0 where
  KeptHere : (m : Memory) (from : ℕ) (item : KeptItem) (items : List KeptItem) (place : ℕ) → KeptFault g inside m item from place
      → KeptsFault g inside m from (item ∷ items) place
  KeptLater : (m : Memory) (from : ℕ) (item : KeptItem) (items : List KeptItem) (place : ℕ) → IsRightKept g inside m item
      → KeptsFault g inside (with_kept m item) (from + 44) items place → KeptsFault g inside m from (item ∷ items) place

-- ---- a Commit and a Delete

-- the entry of a version
abbrev pub commit_entry : Memory → CommitBody → Option Entry
commit_entry m c = get m.files (key_of c.user.0 c.tag.0 c.version.0)

abbrev pub delete_entry : Memory → DeleteBody → Option Entry
delete_entry m d = get m.files (key_of d.user.0 d.tag.0 d.version.0)

-- What was read is a recipe of the store's shape, and has this SHA-256.
pub record IsNamed (shape : Shape) (fp : Fp) (read : List ℕ) : Type 0 where
  pub hashes : fingerprint read ≡ fp
  pub recipe : Recipe
  pub is_recipe : IsRecipe shape read recipe

-- the same, and the user owns each fingerprint that it names
abbrev pub IsWhole : Ground → Memory → CommitBody → List ℕ → Type 0
IsWhole g m c read = IsNamed g.shape c.fp read × AreOwned m.owners c.user (fps_of g.shape read)

-- The recipe's place that a record names, of which the checks want to know what lies there: of a Commit, where neither its place nor its
-- tag fails, and of a Delete's entry.
pub data NamesRecipePlace (g : Ground) (inside : Bool) (m : Memory) : Body → Place → Type 0 where
  ByCommit : (c : CommitBody) → RecipeLies g inside m c → commit_entry m c ≡ None → NamesRecipePlace g inside m (Commit c) (record { at = c.at; len = c.len })
  ByDelete : (d : DeleteBody) (e : Entry) → delete_entry m d ≡ Some e → e.len ≤ recipe_limit → NamesRecipePlace g inside m (Delete d) (record { at = e.at; len = e.len })

-- the bytes of a body are such a record's
abbrev pub AsksFor : Ground → Bool → Memory → List ℕ → Place → Type 0
AsksFor g inside m body place = (b : Body) × (body_at body ≡ Ok b) × NamesRecipePlace g inside m b place

-- ---- limits

-- behind the checkpoint a user spends what its record has; in it the Spents say so
abbrev pub spends_behind : Bool → UserId → Spent → Memory → Memory
spends_behind inside user more m = if inside then m else spends user more m

-- No number passes its limit by a Put that leaves this memory before it is spent: neither the user's own nor the placed fingerprints of
-- all, and behind the checkpoint nothing that the user has spent.
pub record PutFits (g : Ground) (inside : Bool) (user : UserId) (items : List PutItem) (m : Memory) : Type 0 where
  pub own : keys_of (λ k. k.user) m.owners user.0 ≤ (limits_of g.rooms user).owners
  pub placed : len m.places ≤ g.rooms.users * g.rooms.owners
  pub owners : IsTrue inside ⊎ ((spent_by m.spent user).owners + length items ≤ (limits_of g.rooms user).owners)
  pub shares : IsTrue inside ⊎ ((spent_by m.spent user).shares + (spent_on m items).shares ≤ (limits_of g.rooms user).shares)

-- No number passes its limit by a Commit over this memory: the user may have one entry more (no more than the limit are ever there), and
-- behind the checkpoint its recipe's bytes may be spent.
pub record CommitFits (g : Ground) (inside : Bool) (c : CommitBody) (m : Memory) : Type 0 where
  pub entries : keys_of (λ k. k.user) m.files c.user.0 ≢ files_limit g.rooms c.user
  pub recipes : IsTrue inside ⊎ ((spent_by m.spent c.user).recipes + c.len ≤ (limits_of g.rooms c.user).recipes)

-- the same for a Kept that leaves this memory
abbrev pub KeptFits : Ground → Memory → Type 0
KeptFits g m = len m.places ≤ g.rooms.users * g.rooms.owners

-- The Spent's numbers are within the user's limits, and the user has no Spent yet, by these marks. Users with a number of 256 or more,
-- for whom no rooms are, have no mark, and no Spent at all.
pub record MayHaveSpent (g : Ground) (marks : List Bool) (s : SpentBody) : Type 0 where
  pub first : slice_index_or marks s.user.0 true ≡ false
  pub owners : s.owners ≤ (limits_of g.rooms s.user).owners
  pub shares : s.shares ≤ (limits_of g.rooms s.user).shares
  pub recipes : s.recipes ≤ (limits_of g.rooms s.user).recipes

-- The records of a checkpoint: what a list of commands has come to, whatever its order was.
use Rattle.std.specs.Prelude.{◌≡◌, ◌≢◌, ◌↔◌, ℕ, ◌≤◌, ◌==◌, Bool, true, false, List, [], ◌∷◌, ◌++◌, length, map, filter, slice_get, Some, IsSome, IsFalse}
use Rattle.std.specs.List.{flat_map, Contains}
use Rattle.user_dedup.specs.CdBase.ids.Fp.{Fp}
use Rattle.user_dedup.specs.CdBase.ids.Tag.{Tag}
use Rattle.user_dedup.specs.CdBase.ids.UserId.{UserId}
use Rattle.user_dedup.specs.CdBase.ids.Version.{Version}
use Rattle.user_dedup.specs.CdBase.shape.Shape.{Shape}
use Rattle.container_log.specs.Laying.{Placed}
use Rattle.record_body.specs.declared.body.PutItem.{PutItem}
use Rattle.record_body.specs.declared.body.CommitBody.{CommitBody}
use Rattle.user_dedup.specs.declared.file_list.FileEntry.{FileEntry}
use Rattle.user_dedup.specs.Cloud.{fingerprint}
use Rattle.user_dedup.specs.Owning.{is_among}
use Rattle.user_dedup.specs.Pages.{entry_at}
use Rattle.record_body.specs.declared.body.KeptItem.{KeptItem}
use Rattle.record_body.specs.declared.body.SpentBody.{SpentBody}
use Rattle.user_dedup.specs.declared.command.Command.{Command}
use Rattle.user_dedup.specs.Cloud.{user_view, strings_in}
use Rattle.user_dedup.specs.Spending.{SpentByUser, spent_of, nothing}
use Rattle.user_dedup.specs.MessageFields.Fingerprints.{batch_limit}
use Rattle.record_body.specs.Spelling as bodies
use Rattle.record_body.specs.Spelling.{Body}

-- ---- lists that name each of some things once

-- no two of them are the same
abbrev pub AreDistinct : {X : Type 0} → List X → Type 0
AreDistinct {X} xs = (i j : ℕ) (x : X) → slice_get xs i ≡ Some x → slice_get xs j ≡ Some x → i ≡ j

-- the list has each of these once, and no other
pub record Lists {X : Type 0} (xs : List X) (P : X → Type 0) : Type 0 where
  pub each : (x : X) → Contains xs x ↔ P x
  pub once : AreDistinct xs

-- so many items of each record: from 1 to the most that one may have, and all but the last have the most
abbrev pub AreFull : List ℕ → Type 0
AreFull [] = Unit {0}
AreFull (n ∷ []) = (1 ≤ n) × (n ≤ batch_limit)
AreFull (n ∷ m ∷ ns) = (n ≡ batch_limit) × AreFull (m ∷ ns)

-- ---- Put records

pub record PutRecord : Type 0 where
  pub user : UserId
  pub items : List PutItem

abbrev pub put_body : PutRecord → Body
put_body p = bodies.Put p.user p.items

-- those of one user
abbrev pub of_user : UserId → List PutRecord → List PutRecord
of_user user puts = filter (λ (p : PutRecord). p.user.0 == user.0) puts

abbrev pub fps_of : List PutItem → List Fp
fps_of items = map (λ (item : PutItem). item.fp) items

abbrev pub items_in : List PutRecord → List PutItem
items_in puts = flat_map (λ (p : PutRecord). p.items) puts

-- A share has a place exactly where its fingerprint isn't among those before it.
abbrev pub AreFlagged : List Fp → List PutItem → Type 0
AreFlagged before [] = Unit {0}
AreFlagged before (item ∷ items) = (IsSome item.place ↔ IsFalse (is_among before item.fp)) × AreFlagged (before ++ item.fp ∷ []) items

-- They list what each user owns, in as few records as may be; and each share has a place where it is listed first.
pub record ListOwners (shape : Shape) (list : List Command) (puts : List PutRecord) : Type 0 where
  pub own : (user : UserId) → Lists (fps_of (items_in (of_user user puts))) (Contains (user_view shape list user).own)
  pub full : (user : UserId) → AreFull (map (λ (p : PutRecord). length p.items) (of_user user puts))
  pub flags : AreFlagged [] (items_in puts)

-- ---- shares that no user owns

pub record IsOwnerless (shape : Shape) (list : List Command) (fp : Fp) : Type 0 where
  pub put : Contains (map fingerprint (strings_in list)) fp
  pub unowned : (user : UserId) → ¬ (Contains (user_view shape list user).own fp)

-- They list these, in as few records as may be.
pub record ListOwnerless (shape : Shape) (list : List Command) (kept : List (List KeptItem)) : Type 0 where
  pub fps : Lists (map (λ (item : KeptItem). item.fp) (flat_map (λ (items : List KeptItem). items) kept)) (IsOwnerless shape list)
  pub full : AreFull (map (λ (items : List KeptItem). length items) kept)

-- ---- entries

-- the key of a user's entry
abbrev pub key_of : CommitBody → UserId × Tag × Version
key_of c = (c.user, c.tag, c.version)

abbrev pub HasEntry : Shape → List Command → UserId × Tag × Version → Type 0
HasEntry shape list key = IsSome (entry_at (user_view shape list key.0).files (key.1, key.2))

-- the record names an entry, and where its recipe lies
pub record IsEntry (shape : Shape) (list : List Command) (c : CommitBody) (recipe : Placed) : Type 0 where
  pub entry : FileEntry
  pub here : entry_at (user_view shape list c.user).files (c.tag, c.version) ≡ Some entry
  pub bytes : recipe.blob ≡ entry.recipe
  pub place : recipe.place ≡ c.at
  pub len : c.len ≡ length entry.recipe
  pub fp : c.fp ≡ fingerprint entry.recipe

abbrev pub AreEntries : Shape → List Command → List CommitBody → List Placed → Type 0
AreEntries shape list [] [] = Unit {0}
AreEntries shape list [] (recipe ∷ recipes) = ⊥
AreEntries shape list (c ∷ cs) [] = ⊥
AreEntries shape list (c ∷ cs) (recipe ∷ recipes) = IsEntry shape list c recipe × AreEntries shape list cs recipes

-- ---- what was spent

abbrev pub spent_by : SpentBody → SpentByUser
spent_by s = record { owners = s.owners; shares = s.shares; recipes = s.recipes }

-- They name each user that has spent anything, with what it has.
pub record ListSpent (list : List Command) (spents : List SpentBody) : Type 0 where
  pub users : Lists (map (λ (s : SpentBody). s.user) spents) (λ user. spent_of list user ≢ nothing)
  pub numbers : (s : SpentBody) → Contains spents s → spent_by s ≡ spent_of list s.user

-- in format 1 nothing is said of it
abbrev pub SpentIs : Bool → List Command → List SpentBody → Type 0
SpentIs true list spents = spents ≡ []
SpentIs false list spents = ListSpent list spents

-- ---- all of them

-- The records say what the list has come to, in a store of this format; these recipes are those that they place.
pub record IsCheckpointOfList (format : ℕ) (shape : Shape) (list : List Command) (records : List Body) (recipes : List Placed) : Type 0 where
  pub puts : List PutRecord
  pub kept : List (List KeptItem)
  pub commits : List CommitBody
  pub spents : List SpentBody
  pub whole : records ≡ map put_body puts ++ (map bodies.Kept kept ++ (map bodies.Commit commits ++ map bodies.Spent spents))
  pub owners : ListOwners shape list puts
  pub ownerless : ListOwnerless shape list kept
  pub entries : Lists (map key_of commits) (HasEntry shape list)
  pub laid : AreEntries shape list commits recipes
  pub spent : SpentIs (format == 1) list spents

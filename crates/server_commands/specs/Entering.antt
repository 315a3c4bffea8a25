-- What a reply says of the server's memory, whatever the cloud has.
use Rattle.std.specs.Prelude.{◌≡◌, ◌≢◌, ℕ, ◌≤◌, ◌||◌, List, [], ◌∷◌, ◌++◌, length, map, Option, Some, None, IsSome, is_some, if◌then◌else◌}
use Rattle.std.specs.FinMap.{FinMap, get}
use Rattle.std.specs.List.{Contains}
use Rattle.server_reads.specs.CdBase.ids.Fp.{Fp}
use Rattle.server_reads.specs.CdBase.ids.Tag.{Tag}
use Rattle.server_reads.specs.CdBase.ids.UserId.{UserId}
use Rattle.server_reads.specs.CdBase.ids.Version.{Version}
use Rattle.server_reads.specs.CdBase.rooms.Room.TheVariants as names
use Rattle.server_reads.specs.CdBase.shape.Shape.{Shape}
use Rattle.server_reads.specs.ContainerLog.Places.{place_of}
use Rattle.server_reads.specs.FileIndex.key.Entry.{Entry}
use Rattle.server_reads.specs.FileIndex.key.FileKey.{FileKey}
use Rattle.server_reads.specs.FileIndex.Files.{key_of}
use Rattle.cloud_store.specs.JournalStart.rooms.UserRooms.{UserRooms}
use Rattle.cloud_store.specs.JournalStart.start.Header.{Header}
use Rattle.server_reads.specs.Messages.request.Request.{Request}
use Rattle.server_reads.specs.Messages.request.Request.TheVariants as requests
use Rattle.server_reads.specs.Messages.reply.Reply.{Reply}
use Rattle.server_reads.specs.Messages.reply.Reply.TheVariants as replies
use Rattle.server_reads.specs.ShareIndex.Order.{owner_cmp, owner_of}
use Rattle.server_reads.specs.UserDedup.Cloud.{fingerprint}
use Rattle.server_reads.specs.UserDedup.Owning.{is_among}
use Rattle.server_reads.specs.UserDedup.Requests.{fps_of}
use Rattle.server_reads.specs.CloudMemory.rooms.New.{New}
use Rattle.server_reads.specs.CloudMemory.Memory.{Memory}
use Rattle.server_reads.specs.CloudMemory.Rooms.{full_news, full_commit}
use Rattle.server_reads.specs.CloudMemory.Sharing.{AreOwned, IsFirstUnowned}
use Rattle.server_reads.specs.CloudMemory.Steps.{parts_of, with_put, with_commit, without_entry}
use Rattle.server_reads.specs.Found.{AreEntryBytes, HasNone}
use Rattle.server_reads.specs.Owned.{first_unowned, owned_flags}

-- ---- a Put

-- of the strings whose fingerprint the user doesn't own, and that isn't one of these, the first of each fingerprint
abbrev pub unowned_from : FinMap owner_cmp ℕ → UserId → List Fp → List (List ℕ) → List (List ℕ)
unowned_from owners user before [] = []
unowned_from owners user before (s ∷ ss) =
    if is_some (get owners (owner_of user.0 (fingerprint s).0)) || is_among before (fingerprint s) then unowned_from owners user before ss
    else s ∷ unowned_from owners user (before ++ fingerprint s ∷ []) ss

-- of those whose fingerprint the memory doesn't give to the user
abbrev pub unowned : Memory → UserId → List (List ℕ) → List (List ℕ)
unowned m user shares = unowned_from m.owners user [] shares

-- a string's fingerprint and length
abbrev pub new_of : List ℕ → New
new_of s = record { fp = fingerprint s; len = length s }

-- what of the shares is new to the user
abbrev pub news_of : Memory → UserId → List (List ℕ) → List New
news_of m user shares = map new_of (unowned m user shares)

-- the memory with the record of the Put of these shares, where there are some
abbrev pub storing : Memory → UserId → List New → Memory
storing m user [] = m
storing m user (n ∷ news) = with_put user (parts_of user m (n ∷ news)) m

-- To a Put of which these shares are new: Stored counts them, and they are the user's now; they pass no room. Full comes where there are
-- some, and names the first room that they pass, or the journal.
abbrev pub Stores : UserRooms → Memory → Memory → UserId → List New → Reply → Type 0
Stores rooms m new user news (replies.Stored count) =
    (count ≡ length news) × (new ≡ storing m user news) × (1 ≤ length news → full_news rooms user m news ≡ None)
Stores rooms m new user news (replies.Full room used need limit) =
    (1 ≤ length news) × (new ≡ m)
    × (room ≢ names.Journal → full_news rooms user m news ≡ Some (record { room = room; used = used; need = need; limit = limit }))
Stores rooms m new user news reply = ⊥

-- ---- a Commit

-- the memory with the record of the Commit of this recipe, whose items name these fingerprints
abbrev pub entering : Memory → UserId → Tag → Version → List Fp → List ℕ → Memory
entering m user tag version fps recipe =
    with_commit fps (record {
      user = user;
      tag = tag;
      version = version;
      at = place_of m.recipes_end (length recipe);
      len = length recipe;
      fp = fingerprint recipe;
    }) m

-- where there is an entry, the version stands, with a recipe of this one's fingerprint; or it is entered, and passes no room
abbrev pub Committed : UserRooms → Memory → Memory → UserId → Tag → Version → List Fp → List ℕ → Option Entry → Type 0
Committed rooms m new user tag version fps recipe (Some entry) = (new ≡ m) × (fingerprint recipe ≡ entry.fp)
Committed rooms m new user tag version fps recipe None =
    (new ≡ entering m user tag version fps recipe) × (full_commit rooms user m (length recipe) ≡ None)

-- To a Commit of a recipe that names these fingerprints: Lacking names the place of the first one that isn't the user's. Else, where there is
-- an entry, nothing changes. Where there is none, Committed enters the version, or Full names the first room that it passes, or the journal.
abbrev pub Commits : UserRooms → Memory → Memory → UserId → Tag → Version → List Fp → List ℕ → Reply → Type 0
Commits rooms m new user tag version fps recipe (replies.Lacking place) = IsFirstUnowned m.owners user fps place × (new ≡ m)
Commits rooms m new user tag version fps recipe replies.Committed =
    AreOwned m.owners user fps × Committed rooms m new user tag version fps recipe (get m.files (key_of user.0 tag.0 version.0))
Commits rooms m new user tag version fps recipe replies.Exists =
    AreOwned m.owners user fps × IsSome (get m.files (key_of user.0 tag.0 version.0)) × (new ≡ m)
Commits rooms m new user tag version fps recipe (replies.Rotten named found) =
    AreOwned m.owners user fps × IsSome (get m.files (key_of user.0 tag.0 version.0)) × (new ≡ m)
Commits rooms m new user tag version fps recipe (replies.Full room used need limit) =
    AreOwned m.owners user fps × (get m.files (key_of user.0 tag.0 version.0) ≡ None) × (new ≡ m)
    × (room ≢ names.Journal → full_commit rooms user m (length recipe) ≡ Some (record { room = room; used = used; need = need; limit = limit }))
Commits rooms m new user tag version fps recipe reply = ⊥

-- ---- a Delete

-- The memory without the entry, and with a use less of what a recipe of its length and fingerprint names.
pub record WithoutEntry (shape : Shape) (m new : Memory) (user : UserId) (key : FileKey) : Type 0 where
  pub entry : Entry
  pub there : get m.files key ≡ Some entry
  pub recipe : List ℕ
  pub long : length recipe ≡ entry.len
  pub named : fingerprint recipe ≡ entry.fp
  pub taken : new ≡ without_entry (fps_of shape recipe) user key m

-- To a Delete: Missing where there is no entry; else the entry is gone behind Deleted, and nothing changes behind any other reply.
abbrev pub Deletes : Shape → Memory → Memory → UserId → FileKey → Reply → Type 0
Deletes shape m new user key replies.Missing = (get m.files key ≡ None) × (new ≡ m)
Deletes shape m new user key replies.Deleted = WithoutEntry shape m new user key
Deletes shape m new user key (replies.Rotten named found) = IsSome (get m.files key) × (new ≡ m)
Deletes shape m new user key (replies.Full room used need limit) = (room ≡ names.Journal) × IsSome (get m.files key) × (new ≡ m)
Deletes shape m new user key reply = ⊥

-- ---- what only asks

-- To a Query: one flag for each fingerprint, by the owners that the memory has.
abbrev pub KnownBy : Memory → UserId → List Fp → Reply → Type 0
KnownBy m user fps (replies.Known flags) = flags ≡ owned_flags m user fps
KnownBy m user fps reply = ⊥

-- To a GetRecipe: Missing where the memory has no entry. Where it has one, Recipe has bytes of the entry's fingerprint, and Rotten names that.
abbrev pub RecipeBy : Memory → FileKey → Reply → Type 0
RecipeBy m key (replies.Recipe bytes) = AreEntryBytes m key bytes
RecipeBy m key replies.Missing = HasNone m key
RecipeBy m key (replies.Rotten named found) = (entry : Entry) × (get m.files key ≡ Some entry) × (named ≡ entry.fp)
RecipeBy m key reply = ⊥

-- To a GetShares: NotYours names the place of the first fingerprint that isn't the user's. Where all are, Shares has strings of just these
-- fingerprints, and Rotten names one of them.
abbrev pub SharesBy : Memory → UserId → List Fp → Reply → Type 0
SharesBy m user fps (replies.Shares shares) = (first_unowned m user fps ≡ None) × (map fingerprint shares ≡ fps)
SharesBy m user fps (replies.NotYours place) = first_unowned m user fps ≡ Some place
SharesBy m user fps (replies.Rotten named found) = (first_unowned m user fps ≡ None) × Contains fps named
SharesBy m user fps reply = ⊥

-- What the reply to a request that adds nothing says of the memory. Of Hello and List nothing is said here, nor of what adds.
abbrev pub ReadsBy : Memory → Request → Reply → Type 0
ReadsBy m requests.Hello reply = Unit {0}
ReadsBy m (requests.Query user fps) reply = KnownBy m user fps reply
ReadsBy m (requests.Put user shares) reply = Unit {0}
ReadsBy m (requests.Commit user tag version recipe) reply = Unit {0}
ReadsBy m (requests.GetRecipe user tag version) reply = RecipeBy m (key_of user.0 tag.0 version.0) reply
ReadsBy m (requests.GetShares user fps) reply = SharesBy m user fps reply
ReadsBy m (requests.List user after) reply = Unit {0}
ReadsBy m (requests.Delete user tag version) reply = Unit {0}

-- ---- all of them

-- What the reply says of the memory before and behind a request. What only asks leaves it, and its reply is by it.
abbrev pub Enters : Header → Memory → Memory → Request → Reply → Type 0
Enters header m new requests.Hello reply = new ≡ m
Enters header m new (requests.Query user fps) reply = (new ≡ m) × KnownBy m user fps reply
Enters header m new (requests.Put user shares) reply = Stores header.rooms m new user (news_of m user shares) reply
Enters header m new (requests.Commit user tag version recipe) reply =
    Commits header.rooms m new user tag version (fps_of header.shape recipe) recipe reply
Enters header m new (requests.GetRecipe user tag version) reply = (new ≡ m) × RecipeBy m (key_of user.0 tag.0 version.0) reply
Enters header m new (requests.GetShares user fps) reply = (new ≡ m) × SharesBy m user fps reply
Enters header m new (requests.List user after) reply = new ≡ m
Enters header m new (requests.Delete user tag version) reply = Deletes header.shape m new user (key_of user.0 tag.0 version.0) reply

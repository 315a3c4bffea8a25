-- The records of a checkpoint of a memory: what its tables have, in the order of their slots.
use Rattle.std.specs.Prelude.{ℕ, zero, suc, ◌+◌, ◌==◌, ◌&&◌, List, [], ◌∷◌, ◌++◌, length, map, take, drop, Option, Some, None, if◌then◌else◌}
use Rattle.std.specs.FinMap.{FinMap, get}
use Rattle.cloud_memory.specs.CdBase.ids.Fp.{Fp}
use Rattle.cloud_memory.specs.FileIndex.key.Entry.{Entry}
use Rattle.cloud_memory.specs.FileIndex.key.FileKey.{FileKey}
use Rattle.cloud_memory.specs.FileIndex.Files.{Files}
use Rattle.cloud_memory.specs.RecordBody.body.KeptItem.{KeptItem}
use Rattle.cloud_memory.specs.RecordBody.body.SpentBody.{SpentBody}
use Rattle.cloud_memory.specs.RecordBody.Spelling as bodies
use Rattle.cloud_memory.specs.RecordBody.Spelling.{Body}
use Rattle.cloud_memory.specs.RecordBody.body.CommitBody.{CommitBody}
use Rattle.cloud_memory.specs.RecordBody.body.PutItem.{PutItem}
use Rattle.cloud_memory.specs.ShareIndex.key.Owner.{Owner}
use Rattle.cloud_memory.specs.CdBase.place.Place.{Place}
use Rattle.cloud_memory.specs.ShareIndex.Order.{owner_cmp}
use Rattle.cloud_memory.specs.CdBase.Order.{fp_cmp}
use Rattle.cloud_memory.specs.ShareIndex.Shares.{Shares, owners_of}
use Rattle.cloud_memory.specs.SpentTable.Spent.{Spent as Row}
use Rattle.cloud_memory.specs.UserDedup.Owning.{is_among}
use Rattle.cloud_disk.specs.CloudAreas.Checkpoints.{PutRecord, put_body}
use Rattle.cloud_memory.specs.declared.cloud.CloudMemory.{CloudMemory}
use Rattle.checkpoints.specs.Picking.{onto, picked, batches}
use Rattle.checkpoints.specs.declared.position.Position.{Position}

-- ---- what users own

-- the user's fingerprint in a slot
abbrev pub owned_at : ℕ → Option (Owner × ℕ) → Option Fp
owned_at user None = None
owned_at user (Some e) = if e.0.user == user then Some (record { 0 = e.0.fp }) else None

-- what a user owns, by slots
abbrev pub owned_in : ℕ → List (Option (Owner × ℕ)) → List Fp
owned_in user slots = picked (owned_at user) slots

-- what is listed of the users below this one
abbrev pub listed_below : List (Option (Owner × ℕ)) → ℕ → List Fp
listed_below slots zero = []
listed_below slots (suc user) = listed_below slots user ++ owned_in user slots

-- what is listed once a user's fingerprints in front of a slot are
abbrev pub listed : List (Option (Owner × ℕ)) → ℕ → ℕ → List Fp
listed slots user at = listed_below slots user ++ owned_in user (take at slots)

-- a share where it is listed: with its place, where it wasn't listed before
abbrev pub item_of : FinMap fp_cmp Place → List Fp → Fp → PutItem
item_of places before fp = record { fp = fp; place = if is_among before fp then None else get places fp.0 }

-- shares one after another
abbrev pub items_of : FinMap fp_cmp Place → List Fp → List Fp → List PutItem
items_of places before [] = []
items_of places before (fp ∷ fps) = item_of places before fp ∷ items_of places (before ++ fp ∷ []) fps

abbrev pub put_of : ℕ → List PutItem → PutRecord
put_of user items = record { user = record { 0 = user }; items = items }

-- the user's shares from a slot on
abbrev pub items_from : Shares → ℕ → ℕ → List PutItem
items_from shares user at = items_of shares.places (listed shares.owner_slots user at) (owned_in user (drop at shares.owner_slots))

-- the Puts of so many users: those of one from a slot on, and all of the others
abbrev pub puts_from : Shares → ℕ → ℕ → ℕ → List PutRecord
puts_from shares zero user at = []
puts_from shares (suc left) user at = map (put_of user) (batches (items_from shares user at)) ++ puts_from shares left (user + 1) 0

-- ---- what no user owns

abbrev pub kept_at : FinMap owner_cmp ℕ → Option (List ℕ × Place) → Option KeptItem
kept_at owners None = None
kept_at owners (Some e) = if owners_of owners e.0 == 0 then Some (record { fp = record { 0 = e.0 }; place = e.1 }) else None

abbrev pub kept_from : Shares → ℕ → List KeptItem
kept_from shares at = picked (kept_at shares.owners) (drop at shares.place_slots)

-- ---- entries

abbrev pub commit_in : FileKey → Entry → CommitBody
commit_in key e = record { user = record { 0 = key.user }; tag = record { 0 = key.tag }; version = record { 0 = key.version }; at = e.at; len = e.len; fp = e.fp }

abbrev pub commit_at : Option (FileKey × Entry) → Option CommitBody
commit_at None = None
commit_at (Some e) = Some (commit_in e.0 e.1)

abbrev pub commits_from : Files → ℕ → List CommitBody
commits_from files at = picked commit_at (drop at files.slots)

-- ---- what was spent

-- the record of a user's row, where anything was spent
abbrev pub spent_at : ℕ → Row → Option SpentBody
spent_at user row = if (row.owners == 0) && ((row.shares == 0) && (row.recipes == 0)) then None
    else Some (record { user = record { 0 = user }; owners = row.owners; shares = row.shares; recipes = row.recipes })

-- those of these rows, of which the first is this user's
abbrev pub spents_of : ℕ → List Row → List SpentBody
spents_of user [] = []
spents_of user (row ∷ rows) = onto (spent_at user row) (spents_of (user + 1) rows)

abbrev pub spents_from : List Row → ℕ → List SpentBody
spents_from rows user = spents_of user (drop user rows)

-- ---- all of them

-- the records from a position on
abbrev pub coming : Shares → Files → List Row → Position → List Body
coming shares files rows p =
    map put_body (puts_from shares p.left p.user p.owner)
    ++ (map bodies.Kept (batches (kept_from shares p.place)) ++ (map bodies.Commit (commits_from files p.file) ++ map bodies.Spent (spents_from rows p.row)))

-- where a checkpoint of so many users begins
abbrev pub first_of : ℕ → Position
first_of users = record { user = 0; left = users; owner = 0; place = 0; file = 0; row = 0 }

-- the records of a memory
abbrev pub records_of : CloudMemory → List Body
records_of memory = coming memory.shares memory.files memory.spent (first_of (length memory.spent))

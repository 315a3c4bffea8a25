-- What the records of a chain leave in a server's memory, each read into it behind those before it.
use Rattle.std.specs.Prelude.{◌≡◌, ◌≢◌, ℕ, ◌+◌, ◌*◌, ◌≤◌, Bool, true, false, List, [], length, take, drop, fold, Option, Some, None}
use Rattle.std.specs.List.{sum_by}
use Rattle.std.specs.FinMap.{get}
use Rattle.cd_edges.specs.CdBase.ids.Tag.{Tag}
use Rattle.cd_edges.specs.CdBase.ids.UserId.{UserId}
use Rattle.cd_edges.specs.CdBase.ids.Version.{Version}
use Rattle.cd_edges.specs.CdBase.shape.Shape.{Shape}
use Rattle.cd_edges.specs.declared.area.Area.TheVariants.{Recipes}
use Rattle.cd_edges.specs.Disk.{Image}
use Rattle.record_checks.specs.ContainerLog.Laying.{IsAt}
use Rattle.record_checks.specs.FileIndex.key.Entry.{Entry}
use Rattle.record_checks.specs.FileIndex.Files.{key_of}
use Rattle.record_checks.specs.JournalStart.start.Header.{Header}
use Rattle.record_checks.specs.JournalStart.Ranges.{AreRooms}
use Rattle.record_checks.specs.JournalStart.Spelling.{records_of}
use Rattle.record_checks.specs.RecordBody.body.SpentBody.{SpentBody}
use Rattle.record_checks.specs.RecordBody.Spelling as bodies
use Rattle.record_checks.specs.RecordBody.Spelling.{Body}
use Rattle.record_checks.specs.SpentTable.Spent.{Spent}
use Rattle.record_checks.specs.UserDedup.file_list.FileEntry.{FileEntry}
use Rattle.record_checks.specs.UserDedup.Pages.{entry_at}
use Rattle.record_checks.specs.UserDedup.Requests.{fps_of}
use Rattle.record_checks.specs.UserDedup.command.Command.{Command}
use Rattle.record_checks.specs.UserDedup.Dedup.{IsSound}
use Rattle.record_checks.specs.UserDedup.Cloud.{user_view}
use Rattle.record_checks.specs.UserDedup.Spending.{IsWithin}
use Rattle.record_checks.specs.CloudAreas.Chains.{least_shares, least_recipes}
use Rattle.record_checks.specs.CloudAreas.Placing.{region_start, shares_end, recipes_end}
use Rattle.record_checks.specs.CloudAreas.Standing.{Chain, region_in}
use Rattle.record_checks.specs.CloudMemory.Memory.{Memory, Remembers, IsPlacedBy}
use Rattle.record_checks.specs.CloudMemory.Steps.{begun, with_items, with_put, with_entry, with_commit, without_entry, with_kepts, with_spent}

-- ---- one record

-- what a record says that its user has spent
abbrev pub row_of : SpentBody → Spent
row_of s = record { owners = s.owners; shares = s.shares; recipes = s.recipes }

-- What a record leaves for which this recipe was read. Inside of a checkpoint Puts and Commits spend nothing: its last records say what
-- was spent.
abbrev pub taken : Shape → Bool → List ℕ → Body → Memory → Memory
taken shape true recipe (bodies.Put user items) m = with_items user m items
taken shape false recipe (bodies.Put user items) m = with_put user items m
taken shape true recipe (bodies.Commit c) m = with_entry (fps_of shape recipe) c m
taken shape false recipe (bodies.Commit c) m = with_commit (fps_of shape recipe) c m
taken shape inside recipe (bodies.Delete d) m = without_entry (fps_of shape recipe) d.user (key_of d.user.0 d.tag.0 d.version.0) m
taken shape inside recipe (bodies.Kept items) m = with_kepts m items
taken shape inside recipe (bodies.Spent s) m = with_spent s.user (row_of s) m

-- ---- its recipe

-- so many bytes of an area
abbrev pub bytes_at : List ℕ → ℕ → ℕ → List ℕ
bytes_at area at len = take len (drop at area)

-- the recipe that an entry places, if there is one
abbrev pub entry_bytes : List ℕ → Option Entry → List ℕ
entry_bytes area None = []
entry_bytes area (Some e) = bytes_at area e.at e.len

-- what is read for a record: the recipe that a Commit places, and that of the entry that a Delete takes out
abbrev pub recipe_for : List ℕ → Memory → Body → List ℕ
recipe_for area m (bodies.Put user items) = []
recipe_for area m (bodies.Commit c) = bytes_at area c.at c.len
recipe_for area m (bodies.Delete d) = entry_bytes area (get m.files (key_of d.user.0 d.tag.0 d.version.0))
recipe_for area m (bodies.Kept items) = []
recipe_for area m (bodies.Spent s) = []

-- ---- all records

-- what a record leaves where Recipes has these bytes
abbrev pub record_left : Shape → List ℕ → Bool → Memory → Body → Memory
record_left shape area inside m body = taken shape inside (recipe_for area m body) body m

-- what records leave, all of them inside of a checkpoint or all behind it
abbrev pub left_by : Shape → List ℕ → Bool → Memory → List Body → Memory
left_by shape area inside m records = fold (record_left shape area inside) m records

-- what the records of a chain leave, the first of which, so many, are a checkpoint's
abbrev pub chain_left : Shape → List ℕ → ℕ → ℕ → ℕ → List Body → Memory
chain_left shape area users region count records =
    left_by shape area false (left_by shape area true (begun users region) (take count records)) (drop count records)

-- ---- what it is then

-- The recipe of each entry lies in these bytes where the memory says.
abbrev pub RecipesLie : Shape → List ℕ → List Command → Memory → Type 0
RecipesLie shape area list m = (user : UserId) (tag : Tag) (version : Version) (e : Entry) (entry : FileEntry)
    → get m.files (key_of user.0 tag.0 version.0) ≡ Some e → entry_at (user_view shape list user).files (tag, version) ≡ Some entry
    → IsAt area (record { place = e.at; blob = entry.recipe })

-- The memory is that of a list, as these records leave it: it remembers the list, has each place from them, ends where they do, and the
-- recipes lie there in Recipes.
pub record IsLeft (shape : Shape) (area : List ℕ) (users region : ℕ) (list : List Command) (records : List Body) (m : Memory) : Type 0 where
  pub remembers : Remembers shape list m
  pub placed : IsPlacedBy records m
  pub shares : m.shares_end ≡ shares_end region records
  pub recipes : m.recipes_end ≡ recipes_end region records
  pub users_are : length m.spent ≡ users
  pub lie : RecipesLie shape area list m

-- ---- lists and chains

-- A server with this header may hold the list: it is a sound list of the header's cloud, within its rooms, and the store's format is a later
-- one than the first.
pub record MayHold (header : Header) (list : List Command) : Type 0 where
  pub format : header.format ≢ 1
  pub rooms : AreRooms header.rooms
  pub sound : IsSound header.shape header.cloud.0 list
  pub within : IsWithin header.shape header.rooms list

-- how many records of a chain are its checkpoint's
abbrev pub checkpoint_records : Chain → ℕ
checkpoint_records c = records_of c.start.checkpoint

-- what some records leave, the first ones of a chain of the image
abbrev pub front_left : Header → Image → Chain → List Body → Memory
front_left header image c records = chain_left header.shape (image Recipes) header.rooms.users (region_in c) (checkpoint_records c) records

-- The memory is that of a list of the header's cloud, as these records leave it where the image is.
abbrev pub IsLeftIn : Header → Image → ℕ → List Command → List Body → Memory → Type 0
IsLeftIn header image region list records m = IsLeft header.shape (image Recipes) header.rooms.users region list records m

-- Both logs end within the bounds that follow from the rows of the table, added up.
pub record EndsWithinRows (region : ℕ) (m : Memory) : Type 0 where
  pub shares : m.shares_end ≤ region_start region + least_shares + 2 * sum_by (λ (row : Spent). row.shares) m.spent
  pub recipes : m.recipes_end ≤ region_start region + least_recipes + 2 * sum_by (λ (row : Spent). row.recipes) m.spent

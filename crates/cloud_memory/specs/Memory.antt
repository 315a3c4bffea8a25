-- What a server remembers of its cloud's list, and where it finds what the list brought.
use Rattle.std.specs.Prelude.{◌≡◌, ◌↔◌, ℕ, ◌+◌, ◌*◌, ◌≤◌, List, length, map, filter, count_by, bytes_eq, Option, Some, None, option_map, IsSome, if◌then◌else◌}
use Rattle.std.specs.List.{Contains}
use Rattle.std.specs.FinMap.{FinMap, get}
use Rattle.spent_table.specs.CdBase.ids.Fp.{Fp}
use Rattle.spent_table.specs.CdBase.ids.Tag.{Tag}
use Rattle.spent_table.specs.CdBase.ids.UserId.{UserId}
use Rattle.spent_table.specs.CdBase.ids.Version.{Version}
use Rattle.spent_table.specs.CdBase.shape.Shape.{Shape}
use Rattle.cloud_areas.specs.ContainerLog.Laying.{IsAt}
use Rattle.cloud_areas.specs.MessageFields.Keys.{is_above}
use Rattle.cloud_areas.specs.RecordBody.body.CommitBody.{CommitBody}
use Rattle.spent_table.specs.CdBase.place.Place.{Place}
use Rattle.share_index.specs.Order.{owner_cmp, owner_of}
use Rattle.spent_table.specs.CdBase.Order.{fp_cmp}
use Rattle.file_index.specs.declared.key.Entry.{Entry}
use Rattle.file_index.specs.Files.{key_of}
use Rattle.file_index.specs.Order.{key_cmp}
use Rattle.spent_table.specs.declared.Spent.{Spent as Row}
use Rattle.spent_table.specs.Spending.{spent_by}
use Rattle.cloud_areas.specs.UserDedup.file_list.FileEntry.{FileEntry}
use Rattle.cloud_areas.specs.UserDedup.Cloud.{fingerprint}
use Rattle.cloud_areas.specs.UserDedup.Owning.{is_among}
use Rattle.cloud_areas.specs.UserDedup.Pages.{entry_at, sorted_keys}
use Rattle.cloud_areas.specs.UserDedup.Pages.{key_of as file_key}
use Rattle.cloud_areas.specs.UserDedup.command.Command.{Command}
use Rattle.cloud_areas.specs.UserDedup.Cloud.{user_view, named_in, strings_in, held_bytes}
use Rattle.cloud_areas.specs.UserDedup.Spending.{SpentByUser, spent_of, spent_by_all}
use Rattle.cloud_areas.specs.RecordBody.Spelling.{Body, Commit}
use Rattle.cloud_areas.specs.Placing.{shares_in, recipes_in, region_start, places_of, greatest_end}
use Rattle.cloud_areas.specs.Chains.{least_shares, least_recipes}

-- Where each string lies that is held; how often each user's entries name what it owns; where each entry's recipe lies; what each user has
-- spent, by its number; and where the two areas of blobs end.
pub record Memory : Type 0 where
  pub places : FinMap fp_cmp Place
  pub owners : FinMap owner_cmp ℕ
  pub files : FinMap key_cmp Entry
  pub spent : List Row
  pub shares_end : ℕ
  pub recipes_end : ℕ

-- a row of the table as what a list has spent
abbrev pub as_spent : Row → SpentByUser
as_spent row = record { owners = row.owners; shares = row.shares; recipes = row.recipes }

-- how many of these names are the fingerprint
abbrev pub times : List Fp → Fp → ℕ
times names fp = count_by (λ (name : Fp). bytes_eq name.0 fp.0) names

-- how many items of the entries' recipes name the fingerprint
abbrev pub uses_of : Shape → List FileEntry → Fp → ℕ
uses_of shape files fp = times (named_in shape files) fp

-- an entry's length and SHA-256, wherever it lies
abbrev pub summary : Entry → ℕ × Fp
summary e = (e.len, e.fp)

abbrev pub summary_of : FileEntry → ℕ × Fp
summary_of e = (length e.recipe, fingerprint e.recipe)

-- The memory is that of the list. No place follows from the list: places come from the records.
pub record Remembers (shape : Shape) (list : List Command) (m : Memory) : Type 0 where
  pub placed : (fp : Fp) → IsSome (get m.places fp.0) ↔ Contains (map fingerprint (strings_in list)) fp
  pub lens : (fp : Fp) (place : Place) → get m.places fp.0 ≡ Some place → place.len ≡ length (held_bytes list fp)
  pub owners : (user : UserId) (fp : Fp) → get m.owners (owner_of user.0 fp.0)
      ≡ (if is_among (user_view shape list user).own fp then Some (uses_of shape (user_view shape list user).files fp) else None)
  pub files : (user : UserId) (tag : Tag) (version : Version) → option_map summary (get m.files (key_of user.0 tag.0 version.0))
      ≡ option_map summary_of (entry_at (user_view shape list user).files (tag, version))
  pub spent : (user : UserId) → as_spent (spent_by m.spent user) ≡ spent_of list user

-- the Commit's record that gives an entry
abbrev pub commit_of : UserId → Tag → Version → Entry → CommitBody
commit_of user tag version e = record { user = user; tag = tag; version = version; at = e.at; len = e.len; fp = e.fp }

-- The places are those that the records of the chain give.
pub record IsPlacedBy (records : List Body) (m : Memory) : Type 0 where
  pub shares : (fp : Fp) (place : Place) → get m.places fp.0 ≡ Some place ↔ Contains (shares_in records) (fp, place)
  pub recipes : (user : UserId) (tag : Tag) (version : Version) (e : Entry) → get m.files (key_of user.0 tag.0 version.0) ≡ Some e
      → Contains records (Commit (commit_of user tag version e))

-- Both logs end behind all that the records place, and within what was spent. A log may end further on than its last blob: a checkpoint
-- places no recipe that was deleted.
pub record HasEnds (region : ℕ) (list : List Command) (records : List Body) (m : Memory) : Type 0 where
  pub shares : greatest_end (region_start region) (places_of (shares_in records)) ≤ m.shares_end
  pub shares_bound : m.shares_end ≤ region_start region + least_shares + 2 * (spent_by_all list).shares
  pub recipes : greatest_end (region_start region) (recipes_in records) ≤ m.recipes_end
  pub recipes_bound : m.recipes_end ≤ region_start region + least_recipes + 2 * (spent_by_all list).recipes

-- Each string that is held, and the recipe of each entry, stands where the memory says.
pub record Stand (shape : Shape) (shares recipes : List ℕ) (list : List Command) (m : Memory) : Type 0 where
  pub strings : (fp : Fp) (place : Place) → get m.places fp.0 ≡ Some place → IsAt shares (record { place = place.at; blob = held_bytes list fp })
  pub entries : (user : UserId) (key : Tag × Version) (e : Entry) (entry : FileEntry) → get m.files (key_of user.0 key.0.0 key.1.0) ≡ Some e
      → entry_at (user_view shape list user).files key ≡ Some entry → IsAt recipes (record { place = e.at; blob = entry.recipe })

-- the tags and versions of some files above the last one, rising
abbrev pub keys_above : List FileEntry → Option (Tag × Version) → List (Tag × Version)
keys_above files last = filter (is_above last) (sorted_keys (map file_key files))

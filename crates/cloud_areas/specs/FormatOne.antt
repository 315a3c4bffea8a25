-- A store of format 1, as a migration is to read it: the list says where each blob lies. Its numbers of use, and what some rooms can't take.
use Rattle.std.specs.Prelude.{◌≡◌, ◌⊎◌, ℕ, ◌≤◌, ◌==◌, Bool, not, ◌&&◌, List, [], ◌∷◌, ◌++◌, length, take, map, filter, find, bytes_eq, All, Option, Some, option_map}
use Rattle.std.specs.List.{flat_map, sum_by, Contains}
use Rattle.std.specs.Option.{option_or}
use Rattle.user_dedup.specs.CdBase.ids.Fp.{Fp}
use Rattle.user_dedup.specs.CdBase.ids.Tag.{Tag}
use Rattle.user_dedup.specs.CdBase.ids.UserId.{UserId}
use Rattle.user_dedup.specs.CdBase.ids.Version.{Version}
use Rattle.user_dedup.specs.CdBase.rooms.Room.TheVariants as names
use Rattle.user_dedup.specs.CdBase.shape.Shape.{Shape}
use Rattle.journal_halves.specs.CdBase.Limits.{greatest_rooms}
use Rattle.journal_halves.specs.CdEdges.area.Area.TheVariants.{Journal, Shares, Recipes}
use Rattle.journal_halves.specs.CdEdges.Disk.{Image}
use Rattle.container_log.specs.Laying.{Placed, lengths, placed, IsAt}
use Rattle.container_log.specs.Places.{place_of, end_of_laid}
use Rattle.journal_halves.specs.Beginnings.{IsUnbegun}
use Rattle.journal_halves.specs.Halves.{half_len}
use Rattle.journal_halves.specs.JournalStart.rooms.UserRooms.{UserRooms}
use Rattle.journal_halves.specs.JournalStart.start.Header.{Header}
use Rattle.journal_halves.specs.JournalStart.Spelling.{commands_of, records_of, recipes_end_of}
use Rattle.user_dedup.specs.CdBase.place.Place.{Place}
use Rattle.record_body.specs.Spelling.{Body, Commit}
use Rattle.record_body.specs.declared.body.CommitBody.{CommitBody}
use Rattle.user_dedup.specs.Cloud.{has_fingerprint, counted}
use Rattle.user_dedup.specs.Dedup.{FullRoom}
use Rattle.user_dedup.specs.Owning.{new_strings}
use Rattle.user_dedup.specs.declared.command.Command.{Command}
use Rattle.user_dedup.specs.declared.command.Command.TheVariants as commands
use Rattle.user_dedup.specs.Dedup.{IsSound}
use Rattle.user_dedup.specs.Cloud.{user_view, strings_in, recipes_of}
use Rattle.user_dedup.specs.Compact.{users_in, user_at, compact}
use Rattle.user_dedup.specs.Spending.{SpentByUser, spent_of, files_of, limits_of, files_limit, refusal}
use Rattle.cloud_areas.specs.Chains.{AreRecordsOfList, laid_shares, DontOverlap}
use Rattle.cloud_areas.specs.Placing.{shares_in, recipes_in}
use Rattle.cloud_areas.specs.Standing.{Chain, IsChain}

-- ---- where blobs lie

-- the strings that are laid: the first with each fingerprint, whether a user owns it or not
abbrev pub laid_strings : List Command → List (List ℕ)
laid_strings list = new_strings [] (strings_in list)

abbrev pub strings_end : List Command → ℕ
strings_end list = end_of_laid 0 (lengths (laid_strings list))

abbrev pub place_named : Placed → Place
place_named b = record { at = b.place; len = length b.blob }

-- where the string with a fingerprint lies
abbrev pub place_in : List Command → Fp → Option Place
place_in list fp = option_map place_named (find (λ (b : Placed). has_fingerprint fp b.blob) (placed 0 (laid_strings list)))

-- Each Commit's recipe is laid, equal ones and deleted ones too.
abbrev pub laid_end : List Command → ℕ
laid_end list = end_of_laid 0 (lengths (flat_map recipes_of list))

-- a version of a user's file, and where its recipe lies
pub record LaidEntry : Type 0 where
  pub user : UserId
  pub tag : Tag
  pub version : Version
  pub recipe : Placed

abbrev pub is_entry : UserId → Tag → Version → LaidEntry → Bool
is_entry user tag version e = (e.user.0 == user.0) && bytes_eq e.tag.0 tag.0 && (e.version.0 == version.0)

-- the entries after one more command, where the recipes ended here before it
abbrev pub entries_after : ℕ → List LaidEntry → Command → List LaidEntry
entries_after end entries (commands.Put user shares) = entries
entries_after end entries (commands.Commit user tag version recipe) =
    entries ++ record { user = user; tag = tag; version = version; recipe = record { place = place_of end (length recipe); blob = recipe } } ∷ []
entries_after end entries (commands.Delete user tag version) = filter (λ (e : LaidEntry). not (is_entry user tag version e)) entries

abbrev pub entries_from : List Command → List LaidEntry → List Command → List LaidEntry
entries_from before entries [] = entries
entries_from before entries (c ∷ cs) = entries_from (before ++ c ∷ []) (entries_after (laid_end before) entries c) cs

-- the entries that the list has come to, each with its recipe at its place
abbrev pub laid_entries : List Command → List LaidEntry
laid_entries list = entries_from [] [] list

-- a Commit of the list, no earlier than so many commands, lays the recipe
pub record LaysRecipe (from : ℕ) (list : List Command) (r : Placed) : Type 0 where
  pub front : List Command
  pub user : UserId
  pub tag : Tag
  pub version : Version
  pub rest : List Command
  pub list_is : list ≡ front ++ commands.Commit user tag version r.blob ∷ rest
  pub late : from ≤ length front
  pub place : r.place ≡ place_of (laid_end front) (length r.blob)

-- a recipe that a record places: a checkpoint's is that of an entry, and any other that of a Commit behind it
abbrev pub IsLaidRecipe : List Command → List Command → Placed → Type 0
IsLaidRecipe before list r = Contains (map (λ (e : LaidEntry). e.recipe) (laid_entries before)) r ⊎ LaysRecipe (length before) list r

-- ---- what the areas stand for

-- The chain says the list; each string and each recipe that it places lies where the list lays it. The checkpoint's recipes don't overlap,
-- and those behind it lie behind the end that its start says.
pub record Lays (header : Header) (image : Image) (list : List Command) (c : Chain) : Type 0 where
  pub says : AreRecordsOfList header.format header.shape 0 (records_of c.start.checkpoint) (commands_of c.start.checkpoint) c.records list c.recipes
  pub places : (fp : Fp) (place : Place) → Contains (shares_in c.records) (fp, place) → place_in list fp ≡ Some place
  pub shares : All (IsAt (image Shares)) (laid_shares list (shares_in c.records))
  pub before : List Command
  pub after : List Command
  pub list_is : list ≡ before ++ after
  pub first : counted before ≡ commands_of c.start.checkpoint
  pub recipes_laid : (r : Placed) → Contains c.recipes r → IsLaidRecipe before list r
  pub apart : DontOverlap (recipes_in (take (records_of c.start.checkpoint) c.records))
  pub behind : (front : List Body) (commit : CommitBody) (rest : List Body) → c.records ≡ front ++ Commit commit ∷ rest
      → records_of c.start.checkpoint ≤ length front → recipes_end_of c.start.checkpoint ≤ commit.at
  pub recipes : All (IsAt (image Recipes)) c.recipes
  pub end_is : recipes_end_of c.start.checkpoint ≡ laid_end before
  pub area : laid_end before ≤ length (image Recipes)

pub record HasListOne (image : Image) (header : Header) (list : List Command) : Type 0 where
  pub chain_of : Chain
  pub is_chain : IsChain header half_len (image Journal) chain_of
  pub lays : Lays header image list chain_of

-- The areas of a store of format 1 stand for a sound list.
unfoldable pub StandsForOne : Image → Header → List Command → Type 0
StandsForOne image header list = IsSound header.shape header.cloud.0 list × (HasListOne image header list ⊎ (IsUnbegun (image Journal) × (list ≡ [])))

-- ---- use

-- what all users own and hold together
abbrev pub all_owners : Shape → List Command → ℕ
all_owners shape list = sum_by (λ (n : ℕ). length (user_view shape list (user_at n)).own) (users_in list)

abbrev pub all_files : Shape → List Command → ℕ
all_files shape list = sum_by (λ (n : ℕ). files_of shape list (user_at n)) (users_in list)

-- After each command the list is within the greatest rooms that format 1 had.
pub record IsWithinGreatest (shape : Shape) (list : List Command) : Type 0 where
  pub fps : length (laid_strings list) ≤ greatest_rooms.fps
  pub owners : (before after : List Command) → list ≡ before ++ after → all_owners shape before ≤ greatest_rooms.owners
  pub files : (before after : List Command) → list ≡ before ++ after → all_files shape before ≤ greatest_rooms.files
  pub shares : strings_end list ≤ greatest_rooms.shares
  pub recipes : laid_end list ≤ greatest_rooms.recipes

-- ---- what a migration refuses

-- the first of a user's rooms that such use passes
abbrev pub passed_room : UserRooms → UserId → SpentByUser → ℕ → Option FullRoom
passed_room rooms user used files =
    let limits = limits_of rooms user in
    option_or (refusal names.Owners used.owners 0 limits.owners)
    (option_or (refusal names.Shares used.shares 0 limits.shares)
    (option_or (refusal names.Recipes used.recipes 0 limits.recipes) (refusal names.Files files 0 (files_limit rooms user))))

-- the first room of a user's that is too small for what is kept
abbrev pub too_large_for : Shape → UserRooms → List Command → UserId → Option FullRoom
too_large_for shape rooms list user = passed_room rooms user (spent_of (compact shape list) user) (files_of shape (compact shape list) user)

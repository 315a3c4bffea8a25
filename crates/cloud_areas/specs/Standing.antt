-- Which lists of commands the three areas of a cloud stand for. They may stand for several: a checkpoint keeps what a list came to, and
-- not the list.
use Rattle.std.specs.Prelude.{◌≡◌, ◌⊎◌, ℕ, ◌+◌, ◌-◌, ◌^◌, ◌≤◌, min, List, [], length, map, None, All}
use Rattle.std.specs.List.{Contains}
use Rattle.user_dedup.specs.CdBase.ids.Fp.{Fp}
use Rattle.user_dedup.specs.CdBase.ids.Tag.{Tag}
use Rattle.user_dedup.specs.CdBase.ids.UserId.{UserId}
use Rattle.user_dedup.specs.CdBase.ids.Version.{Version}
use Rattle.journal_halves.specs.CdEdges.area.Area.TheVariants.{Journal, Shares, Recipes}
use Rattle.journal_halves.specs.CdEdges.Disk.{Image}
use Rattle.journal_halves.specs.JournalStart.start.Header.{Header}
use Rattle.journal_halves.specs.JournalStart.start.Start.{Start}
use Rattle.journal_halves.specs.JournalStart.Spelling.{commands_of, records_of, region_of}
use Rattle.journal_halves.specs.Halves.{half_limit}
use Rattle.journal_halves.specs.Journals.{Where, HasChain, used_by}
use Rattle.journal_halves.specs.Beginnings.{IsUnbegun}
use Rattle.container_log.specs.Laying.{Placed, IsAt}
use Rattle.record_body.specs.Spelling.{Body, Commit, body_bytes, FitsBody}
use Rattle.user_dedup.specs.CdBase.place.Place.{Place}
use Rattle.user_dedup.specs.declared.file_list.FileEntry.{FileEntry}
use Rattle.user_dedup.specs.declared.command.Command.{Command}
use Rattle.user_dedup.specs.Dedup.{IsSound}
use Rattle.user_dedup.specs.Cloud.{held_bytes}
use Rattle.cloud_areas.specs.Placing.{shares_in}
use Rattle.cloud_areas.specs.Chains.{commit_of, AreRecordsOfList, laid_shares, AreLong, BothHaveRoom}

-- the chain of a journal's current half: where it is, its start, and what its records say
pub record Chain : Type 0 where
  pub half : ℕ
  pub start : Start
  pub records : List Body
  pub recipes : List Placed  -- the recipes that they place

-- the chain as a journal has it, each record by its bytes
abbrev pub where_of : Chain → Where
where_of c = record { half = c.half; start = c.start; bodies = map body_bytes c.records }

-- a chain that begins with no command
abbrev pub new_chain : Header → Chain
new_chain header = record { half = 0; start = record { header = header; checkpoint = None }; records = []; recipes = [] }

-- how many commands an opening answers where the journal has this chain: as many as its start says, and one for each record behind the
-- checkpoint's, as far as 64 bits reach
abbrev pub number_at : Where → ℕ
number_at w = min (commands_of w.start.checkpoint + (length w.bodies - records_of w.start.checkpoint)) (2 ^ 64 - 1)

-- the region of the blobs that the chain places
abbrev pub region_in : Chain → ℕ
region_in c = region_of c.start.checkpoint

-- The current half of the journal has this chain, within the half's limit. It begins with the header.
pub record IsChain (header : Header) (limit : ℕ) (journal : List ℕ) (c : Chain) : Type 0 where
  pub there : HasChain journal (where_of c)
  pub header_is : c.start.header ≡ header
  pub within : used_by (where_of c) ≤ limit
  pub fit : All FitsBody c.records

-- The chain says the list, and what it places stands in the areas.
pub record Holds (header : Header) (image : Image) (list : List Command) (c : Chain) : Type 0 where
  pub says : AreRecordsOfList header.format header.shape (region_in c) (records_of c.start.checkpoint) (commands_of c.start.checkpoint) c.records list c.recipes
  pub long : AreLong list (shares_in c.records)
  pub shares : All (IsAt (image Shares)) (laid_shares list (shares_in c.records))
  pub recipes : All (IsAt (image Recipes)) c.recipes
  pub rooms : BothHaveRoom (region_in c) list c.records

-- the journal's current half has a chain that says the list
pub record HasList (image : Image) (header : Header) (list : List Command) : Type 0 where
  pub chain_of : Chain
  pub is_chain : IsChain header (half_limit header.rooms) (image Journal) chain_of
  pub holds : Holds header image list chain_of

-- The areas of the header's cloud stand for a sound list: they have it, or no half of their journal is begun and the list is empty.
unfoldable pub StandsFor : Image → Header → List Command → Type 0
StandsFor image header list = IsSound header.shape header.cloud.0 list × (HasList image header list ⊎ (IsUnbegun (image Journal) × (list ≡ [])))

-- The journal's chain, by these bytes, says the list.
pub record HasChainOf (image : Image) (header : Header) (list : List Command) (w : Where) : Type 0 where
  pub chain_of : Chain
  pub bytes : where_of chain_of ≡ w
  pub is_chain : IsChain header (half_limit header.rooms) (image Journal) chain_of
  pub holds : Holds header image list chain_of

-- ---- where a share and a recipe lie

-- The string that is held under the fingerprint lies at this place.
pub record HeldShareLies (image : Image) (list : List Command) (fp : Fp) (place : Place) : Type 0 where
  pub len : place.len ≡ length (held_bytes list fp)
  pub lies : IsAt (image Shares) (record { place = place.at; blob = held_bytes list fp })

-- A Commit of the entry's key is among the records, and the entry's recipe lies where it says.
pub record EntryLies (image : Image) (c : Chain) (user : UserId) (key : Tag × Version) (entry : FileEntry) : Type 0 where
  pub at : ℕ
  pub named : Contains c.records (Commit (commit_of user key.0 key.1 entry.recipe at))
  pub lies : IsAt (image Recipes) (record { place = at; blob = entry.recipe })

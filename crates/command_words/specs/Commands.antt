-- The table of the program's words: a row for each command, its one spelling, and the ranges of what it names.
use Rattle.std.specs.Prelude.{ℕ, ◌≡◌, ◌<◌, ◌≤◌, ◌*◌, ◌^◌, List, [], ◌∷◌, length, codes, decimal}
use Rattle.session.specs.CdBase.Limits.{IsPath}
use Rattle.session.specs.CdBase.ids.UserId.{UserId}
use Rattle.session.specs.CdBase.ids.Version.{Version}
use Rattle.session.specs.JournalStart.rooms.UserRooms.{UserRooms}
use Rattle.session.specs.JournalStart.Ranges.{AreRooms}
use Rattle.session.specs.Spelling.{cloud_list, AreSources}
use Rattle.command_words.specs.Asked.{AskedRead, AskedServe, AskedFile, AskedSpool, AskedResume, AskedCloud, AskedMigrate, AskedSession, Asked}
use Rattle.command_words.specs.Asked.{ForReplay, ForRead, ForServe, ForBackup, ForRestore, ForDelete, ForSpool, ForResume}
use Rattle.command_words.specs.Asked.{ForAudit, ForCheck, ForReclaim, ForMigrate, ForGenerate}

-- ---- the words behind the command's name

-- DIR N K USER PATH VERSION CLOUDS
abbrev pub read_words : AskedRead → List (List ℕ)
read_words r =
    r.directory ∷ decimal r.shape.n ∷ decimal r.shape.k ∷ decimal r.user.0 ∷ r.path ∷ decimal r.version.0
    ∷ cloud_list r.clouds ∷ []

-- DIR CLOUD N K ADDR COUNT
abbrev pub serve_words : AskedServe → List (List ℕ)
serve_words s =
    s.directory ∷ decimal s.cloud.0 ∷ decimal s.shape.n ∷ decimal s.shape.k ∷ s.address ∷ decimal s.count ∷ []

-- USER PATH VERSION ADDR..
abbrev pub file_words : AskedFile → List (List ℕ)
file_words f = decimal f.user.0 ∷ f.path ∷ decimal f.version.0 ∷ f.addresses

-- DIR USER PATH VERSION ADDR..
abbrev pub spool_words : AskedSpool → List (List ℕ)
spool_words s = s.directory ∷ file_words s.file

-- DIR ADDR..
abbrev pub resume_words : AskedResume → List (List ℕ)
resume_words r = r.directory ∷ r.addresses

-- DIR CLOUD N K
abbrev pub cloud_words : AskedCloud → List (List ℕ)
cloud_words c = c.directory ∷ decimal c.cloud.0 ∷ decimal c.shape.n ∷ decimal c.shape.k ∷ []

-- USERS SHARES RECIPES OWNERS FILES
abbrev pub rooms_words : UserRooms → List (List ℕ)
rooms_words r = decimal r.users ∷ decimal r.shares ∷ decimal r.recipes ∷ decimal r.owners ∷ decimal r.files ∷ []

-- DIR CLOUD N K USERS SHARES RECIPES OWNERS FILES
abbrev pub migrate_words : AskedMigrate → List (List ℕ)
migrate_words m = m.place.directory ∷ decimal m.place.cloud.0 ∷ decimal m.place.shape.n ∷ decimal m.place.shape.k ∷ rooms_words m.rooms

-- SEED FILES PIECES DIR
abbrev pub session_words : AskedSession → List (List ℕ)
session_words g = decimal g.seed ∷ decimal g.files ∷ decimal g.pieces ∷ g.directory ∷ []

-- ---- the ranges

-- a user and a version have the range of their types
pub record IsFile (user : UserId) (path : List ℕ) (version : Version) : Type 0 where
  pub user_range : user.0 < 2 ^ 32
  pub named : IsPath path
  pub version_range : version.0 < 2 ^ 64

-- k clouds below n or more, rising
pub record FitsRead (r : AskedRead) : Type 0 where
  pub file : IsFile r.user r.path r.version
  pub chosen : AreSources r.shape r.clouds

pub record FitsServe (s : AskedServe) : Type 0 where
  pub cloud : s.cloud.0 < s.shape.n
  pub some : 1 ≤ s.count
  pub few : s.count < 2 ^ 32

-- so many addresses
pub record FitsFile (least : ℕ) (f : AskedFile) : Type 0 where
  pub file : IsFile f.user f.path f.version
  pub some : least ≤ length f.addresses
  pub few : length f.addresses ≤ 16

-- one address for each cloud of some shape
pub record FitsResume (r : AskedResume) : Type 0 where
  pub some : 3 ≤ length r.addresses
  pub few : length r.addresses ≤ 16

abbrev pub FitsCloud : AskedCloud → Type 0
FitsCloud c = c.cloud.0 < c.shape.n

-- a cloud of the shape, and rooms that a cloud may have
pub record FitsMigrate (m : AskedMigrate) : Type 0 where
  pub cloud : m.place.cloud.0 < m.place.shape.n
  pub rooms : AreRooms m.rooms

pub record FitsSession (g : AskedSession) : Type 0 where
  pub seed : g.seed < 2 ^ 64
  pub some_files : 1 ≤ g.files
  pub files : g.files ≤ 1000
  pub some_pieces : 1 ≤ g.pieces
  pub pieces : g.pieces ≤ 8192
  pub all : g.files * g.pieces ≤ 131072

-- ---- the table

-- The words behind the program's name ask for this. A directory and an address are any words.
abbrev pub IsCommand : List (List ℕ) → Asked → Type 0
IsCommand words (ForReplay directory) = words ≡ codes "replay" ∷ directory ∷ []
IsCommand words (ForRead r) = (words ≡ codes "read" ∷ read_words r) × FitsRead r
IsCommand words (ForServe s) = (words ≡ codes "serve" ∷ serve_words s) × FitsServe s
IsCommand words (ForBackup f) = (words ≡ codes "backup" ∷ file_words f) × FitsFile 3 f
IsCommand words (ForRestore f) = (words ≡ codes "restore" ∷ file_words f) × FitsFile 2 f
IsCommand words (ForDelete f) = (words ≡ codes "delete" ∷ file_words f) × FitsFile 3 f
IsCommand words (ForSpool s) = (words ≡ codes "spool" ∷ spool_words s) × FitsFile 3 s.file
IsCommand words (ForResume r) = (words ≡ codes "resume" ∷ resume_words r) × FitsResume r
IsCommand words (ForAudit c) = (words ≡ codes "audit" ∷ cloud_words c) × FitsCloud c
IsCommand words (ForCheck c) = (words ≡ codes "check" ∷ cloud_words c) × FitsCloud c
IsCommand words (ForReclaim c) = (words ≡ codes "reclaim" ∷ cloud_words c) × FitsCloud c
IsCommand words (ForMigrate m) = (words ≡ codes "migrate" ∷ migrate_words m) × FitsMigrate m
IsCommand words (ForGenerate g) = (words ≡ codes "gen" ∷ session_words g) × FitsSession g

-- the words are one of the table
abbrev pub IsAnyCommand : List (List ℕ) → Type 0
IsAnyCommand words = (asked : Asked) × IsCommand words asked

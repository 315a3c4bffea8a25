-- What reading the words gives: word by word, from left to right.
use Rattle.std.specs.Prelude.{ℕ, ◌≡◌, ◌*◌, Bool, ◌&&◌, List, [], ◌∷◌, length, Option, Some, None, codes, nat_lt, nat_le}
use Rattle.std.specs.List.{find}
use Rattle.std.specs.Str.{bytes_eq}
use Rattle.session.specs.CdBase.shape.Shape.{Shape}
use Rattle.session.specs.Grammar.Words.{keep}
use Rattle.session.specs.Grammar.Numerals.{number}
use Rattle.session.specs.JournalStart.rooms.UserRooms.{UserRooms}
use Rattle.session.specs.JournalStart.Ranges.{most_shares, most_recipes, most_owners, most_files}
use Rattle.session.specs.Reading.{names_file, needed, sources, make_rooms, each_room}
pub use Rattle.session.specs.Reading.{user, version}
use Rattle.command_words.specs.Asked.{AskedRead, AskedServe, AskedFile, AskedSpool, AskedResume, AskedCloud, AskedMigrate, AskedSession, Asked}
use Rattle.command_words.specs.Asked.{ForReplay, ForRead, ForServe, ForBackup, ForRestore, ForDelete, ForSpool, ForResume}
use Rattle.command_words.specs.Asked.{ForAudit, ForCheck, ForReclaim, ForMigrate, ForGenerate}
use Rattle.command_words.specs.declared.rows.Row.{Row}
use Rattle.command_words.specs.declared.rows.Row.TheVariants as rows

infixl 10 ◌>>=◌
abbrev pub ◌>>=◌ : {A B : Type 0} → Option A → (A → Option B) → Option B
(Some x) >>= f = f x
None >>= f = None

-- What a function returned, seen by view, is what reading gives.
abbrev pub GivesOrNone : {X Y : Type 0} → (X → Y) → Option X → Option Y → Type 0
GivesOrNone view (Some x) read = read ≡ Some (view x)
GivesOrNone view None read = read ≡ None

-- ---- readers of words: a value, and the words behind it

abbrev pub with_rest : {A : Type 0} → Option A → List (List ℕ) → Option (A × List (List ℕ))
with_rest None rest = None
with_rest (Some x) rest = Some (x, rest)

-- a word that spells something
unfoldable pub word_at : {A : Type 0} → (List ℕ → Option A) → List (List ℕ) → Option (A × List (List ℕ))
word_at read [] = None
word_at read (word ∷ words) = with_rest (read word) words

-- two readers in a row, of which the first may bound the second
infixr 20 ◌▷▷◌
abbrev pub ◌▷▷◌ : {A B : Type 0} → (List (List ℕ) → Option (A × List (List ℕ)))
    → (A → List (List ℕ) → Option (B × List (List ℕ))) → List (List ℕ) → Option ((A × B) × List (List ℕ))
(f ▷▷ g) words = f words >>= λ a. g a.0 a.1 >>= λ b. Some ((a.0, b.0), b.1)

-- two readers in a row
infixr 20 ◌▷◌
abbrev pub ◌▷◌ : {A B : Type 0} → (List (List ℕ) → Option (A × List (List ℕ)))
    → (List (List ℕ) → Option (B × List (List ℕ))) → List (List ℕ) → Option ((A × B) × List (List ℕ))
(f ▷ g) words = f words >>= λ a. g a.1 >>= λ b. Some ((a.0, b.0), b.1)

-- a value, where no word is left
abbrev pub done_at : {A : Type 0} → A → List (List ℕ) → Option A
done_at x [] = Some x
done_at x (word ∷ words) = None

-- a reader of all the words
abbrev pub whole : {A B : Type 0} → (A → B) → (List (List ℕ) → Option (A × List (List ℕ))) → List (List ℕ)
    → Option B
whole make f words = f words >>= λ x. done_at (make x.0) x.1

-- ---- words

abbrev pub any : List ℕ → Option (List ℕ)
any word = Some word

-- the word's own bytes
unfoldable pub path : List ℕ → Option (List ℕ)
path word = keep names_file (Some word)

-- N and K
unfoldable pub shape_at : List (List ℕ) → Option (Shape × List (List ℕ))
shape_at words = word_at (number 0 255) words >>= λ n. word_at (needed n.0) n.1

-- USERS SHARES RECIPES OWNERS FILES: how many users there are bounds what each of them holds
unfoldable pub rooms_at : List (List ℕ) → Option (UserRooms × List (List ℕ))
rooms_at words = (word_at (number 1 256) ▷▷ λ users. word_at (each_room most_shares users) ▷ word_at (each_room most_recipes users)
    ▷ word_at (each_room most_owners users) ▷ word_at (each_room most_files users)) words >>= λ x. Some (make_rooms x.0, x.1)

-- ---- the rows

unfoldable pub replay_at : List (List ℕ) → Option (List ℕ)
replay_at = whole (λ directory. directory) (word_at any)

abbrev pub make_read : List ℕ × (Shape × (ℕ × (List ℕ × (ℕ × List ℕ)))) → AskedRead
make_read x = record {
  directory = x.0;
  shape = x.1.0;
  user = record { 0 = x.1.1.0 };
  path = x.1.1.1.0;
  version = record { 0 = x.1.1.1.1.0 };
  clouds = x.1.1.1.1.1;
}

unfoldable pub read_at : List (List ℕ) → Option AskedRead
read_at = whole make_read
    (word_at any ▷ (shape_at ▷▷ λ shape. word_at user ▷ word_at path ▷ word_at version ▷ word_at (sources shape)))

abbrev pub make_serve : List ℕ × (ℕ × (Shape × (List ℕ × ℕ))) → AskedServe
make_serve x = record {
  directory = x.0;
  cloud = record { 0 = x.1.0 };
  shape = x.1.1.0;
  address = x.1.1.1.0;
  count = x.1.1.1.1;
}

abbrev pub has_cloud : AskedServe → Bool
has_cloud s = nat_lt s.cloud.0 s.shape.n

unfoldable pub serve_at : List (List ℕ) → Option AskedServe
serve_at words = keep has_cloud
    (whole make_serve (word_at any ▷ word_at (number 0 255) ▷ shape_at ▷ word_at any ▷ word_at (number 1 4294967295))
    words)

abbrev pub make_file : ℕ × (List ℕ × ℕ) → List (List ℕ) → AskedFile
make_file x addresses = record {
  user = record { 0 = x.0 };
  path = x.1.0;
  version = record { 0 = x.1.1 };
  addresses = addresses;
}

abbrev pub has_addresses : ℕ → AskedFile → Bool
has_addresses least f = nat_le least (length f.addresses) && nat_le (length f.addresses) 16

-- the addresses are the words behind the version
unfoldable pub file_at : ℕ → List (List ℕ) → Option AskedFile
file_at least words = keep (has_addresses least)
    ((word_at user ▷ word_at path ▷ word_at version) words >>= λ x. Some (make_file x.0 x.1))

abbrev pub read_as : {A B : Type 0} → (A → B) → Option A → Option B
read_as make (Some x) = Some (make x)
read_as make None = None

abbrev pub make_spool : List ℕ → AskedFile → AskedSpool
make_spool directory file = record { directory = directory; file = file }

unfoldable pub spool_at : List (List ℕ) → Option AskedSpool
spool_at words = word_at any words >>= λ d. read_as (make_spool d.0) (file_at 3 d.1)

abbrev pub make_resume : List ℕ → List (List ℕ) → AskedResume
make_resume directory addresses = record { directory = directory; addresses = addresses }

abbrev pub has_clouds : AskedResume → Bool
has_clouds r = nat_le 3 (length r.addresses) && nat_le (length r.addresses) 16

-- the addresses are the words behind the directory
unfoldable pub resume_at : List (List ℕ) → Option AskedResume
resume_at words = keep has_clouds (word_at any words >>= λ d. Some (make_resume d.0 d.1))

abbrev pub make_cloud : List ℕ × (ℕ × Shape) → AskedCloud
make_cloud x = record { directory = x.0; cloud = record { 0 = x.1.0 }; shape = x.1.1 }

abbrev pub is_of_shape : AskedCloud → Bool
is_of_shape c = nat_lt c.cloud.0 c.shape.n

unfoldable pub cloud_at : List (List ℕ) → Option AskedCloud
cloud_at words = keep is_of_shape (whole make_cloud (word_at any ▷ word_at (number 0 255) ▷ shape_at) words)

abbrev pub make_migrate : List ℕ × (ℕ × (Shape × UserRooms)) → AskedMigrate
make_migrate x = record { place = make_cloud (x.0, (x.1.0, x.1.1.0)); rooms = x.1.1.1 }

abbrev pub is_placed : AskedMigrate → Bool
is_placed m = is_of_shape m.place

unfoldable pub migrate_at : List (List ℕ) → Option AskedMigrate
migrate_at words = keep is_placed (whole make_migrate (word_at any ▷ word_at (number 0 255) ▷ shape_at ▷ rooms_at) words)

abbrev pub make_session : ℕ × (ℕ × (ℕ × List ℕ)) → AskedSession
make_session x = record { seed = x.0; files = x.1.0; pieces = x.1.1.0; directory = x.1.1.1 }

abbrev pub is_small : AskedSession → Bool
is_small g = nat_le (g.files * g.pieces) 131072

unfoldable pub session_at : List (List ℕ) → Option AskedSession
session_at words = keep is_small
    (whole make_session
    (word_at (number 0 18446744073709551615) ▷ word_at (number 1 1000) ▷ word_at (number 1 8192) ▷ word_at any) words)

-- ---- the table

abbrev pub name : Row → List ℕ
name rows.Replay = codes "replay"
name rows.Read = codes "read"
name rows.Serve = codes "serve"
name rows.Backup = codes "backup"
name rows.Restore = codes "restore"
name rows.Delete = codes "delete"
name rows.Spool = codes "spool"
name rows.Resume = codes "resume"
name rows.Audit = codes "audit"
name rows.Check = codes "check"
name rows.Reclaim = codes "reclaim"
name rows.Migrate = codes "migrate"
name rows.Generate = codes "gen"

abbrev pub all_rows : List Row
all_rows = rows.Replay ∷ rows.Read ∷ rows.Serve ∷ rows.Backup ∷ rows.Restore ∷ rows.Delete ∷ rows.Spool
    ∷ rows.Resume ∷ rows.Audit ∷ rows.Check ∷ rows.Reclaim ∷ rows.Migrate ∷ rows.Generate ∷ []

abbrev pub named : List ℕ → Option Row
named word = find (λ row. bytes_eq word (name row)) all_rows

abbrev pub row_at : Row → List (List ℕ) → Option Asked
row_at rows.Replay words = read_as ForReplay (replay_at words)
row_at rows.Read words = read_as ForRead (read_at words)
row_at rows.Serve words = read_as ForServe (serve_at words)
row_at rows.Backup words = read_as ForBackup (file_at 3 words)
row_at rows.Restore words = read_as ForRestore (file_at 2 words)
row_at rows.Delete words = read_as ForDelete (file_at 3 words)
row_at rows.Spool words = read_as ForSpool (spool_at words)
row_at rows.Resume words = read_as ForResume (resume_at words)
row_at rows.Audit words = read_as ForAudit (cloud_at words)
row_at rows.Check words = read_as ForCheck (cloud_at words)
row_at rows.Reclaim words = read_as ForReclaim (cloud_at words)
row_at rows.Migrate words = read_as ForMigrate (migrate_at words)
row_at rows.Generate words = read_as ForGenerate (session_at words)

-- what all the words ask for
unfoldable pub command_at : List (List ℕ) → Option Asked
command_at words = word_at named words >>= λ row. row_at row.0 row.1

-- A cloud is the list of the commands that changed it, in order. What that list says of one user, and which strings it holds.
use Rattle.std.specs.Prelude.{◌≢◌, ℕ, ◌-◌, ◌^◌, ◌==◌, min, Bool, not, ◌||◌, List, [], ◌∷◌, ◌++◌, length, map, filter, find, fold, Option, Some, None, unwrap_or}
use Rattle.std.specs.List.{flat_map, Contains}
use Rattle.journal_start.specs.CdBase.ids.Fp.{Fp}
use Rattle.journal_start.specs.CdBase.ids.Tag.{Tag}
use Rattle.journal_start.specs.CdBase.ids.UserId.{UserId}
use Rattle.journal_start.specs.CdBase.ids.Version.{Version}
use Rattle.journal_start.specs.CdBase.shape.Shape.{Shape}
use Rattle.user_dedup.specs.declared.file_list.FileEntry.{FileEntry}
use Rattle.user_dedup.specs.declared.view.View.{View}
pub use Rattle.user_dedup.specs.Strings.{fingerprint, has_fingerprint}
use Rattle.user_dedup.specs.Owning.{is_among}
use Rattle.user_dedup.specs.Pages.{key_of, is_at, entry_at}
use Rattle.user_dedup.specs.Requests.{fps_of}
use Rattle.user_dedup.specs.declared.command.Command.{Command}
use Rattle.user_dedup.specs.declared.command.Command.TheVariants as commands

-- the user whose command it is
abbrev pub user_of : Command → UserId
user_of (commands.Put user shares) = user
user_of (commands.Commit user tag version recipe) = user
user_of (commands.Delete user tag version) = user

-- the command is this user's
abbrev pub is_of : UserId → Command → Bool
is_of user command = (user_of command).0 == user.0

-- a user's commands alone
abbrev pub commands_of : UserId → List Command → List Command
commands_of user list = filter (is_of user) list

-- how many commands an opening answers: all of them, as far as 64 bits reach
abbrev pub counted : List Command → ℕ
counted list = min (length list) (2 ^ 64 - 1)

-- ---- views

abbrev pub no_view : View
no_view = record { own = []; files = [] }

-- the fingerprints that the recipes of these entries name
abbrev pub named_in : Shape → List FileEntry → List Fp
named_in shape files = flat_map (λ (e : FileEntry). fps_of shape e.recipe) files

-- the fingerprints that the recipe of an entry names, if there is one
abbrev pub named_by : Shape → Option FileEntry → List Fp
named_by shape None = []
named_by shape (Some e) = fps_of shape e.recipe

-- the entries but those of this key
abbrev pub without_key : Tag × Version → List FileEntry → List FileEntry
without_key key files = filter (λ (e : FileEntry). not (is_at key e)) files

-- of the user's fingerprints those that weren't named by what went, or are named by what is left
abbrev pub still_owned : List Fp → List Fp → List Fp → List Fp
still_owned gone left own = filter (λ (fp : Fp). not (is_among gone fp) || is_among left fp) own

-- the view without the entry of a key, and without the fingerprints that it alone named
abbrev pub without_entry : Shape → Tag × Version → View → View
without_entry shape key v = record {
  own = still_owned (named_by shape (entry_at v.files key)) (named_in shape (without_key key v.files)) v.own;
  files = without_key key v.files;
}

-- A user's view after one more of the user's commands, in a store of this shape: a Put adds the fingerprints of its strings, a Commit
-- an entry, and a Delete takes an entry out, and then what no entry left names.
abbrev pub view_after : Shape → View → Command → View
view_after shape v (commands.Put user shares) = record { own = v.own ++ map fingerprint shares; files = v.files }
view_after shape v (commands.Commit user tag version recipe) = record { own = v.own; files = v.files ++ record { tag = tag; version = version; recipe = recipe } ∷ [] }
view_after shape v (commands.Delete user tag version) = without_entry shape (tag, version) v

-- the view of a user: no other user's command is in it
abbrev pub user_view : Shape → List Command → UserId → View
user_view shape list user = fold (view_after shape) no_view (commands_of user list)

-- the deletion of a version of the user's file
abbrev pub deletion : UserId → Tag × Version → Command
deletion user key = commands.Delete user key.0 key.1

-- an entry of another key names the fingerprint
pub record IsNamedBeside (shape : Shape) (key : Tag × Version) (files : List FileEntry) (fp : Fp) : Type 0 where
  pub entry : FileEntry
  pub here : Contains files entry
  pub other : key_of entry ≢ key
  pub names : Contains (fps_of shape entry.recipe) fp

-- ---- what is held

-- the strings that a command brings
abbrev pub strings_of : Command → List (List ℕ)
strings_of (commands.Put user shares) = shares
strings_of (commands.Commit user tag version recipe) = []
strings_of (commands.Delete user tag version) = []

-- the strings of all Puts, in order
abbrev pub strings_in : List Command → List (List ℕ)
strings_in list = flat_map strings_of list

-- The first string of any user's Put that has this fingerprint. A deletion takes no string.
abbrev pub held_string : List Command → Fp → Option (List ℕ)
held_string list fp = find (has_fingerprint fp) (strings_in list)

-- that string, or no bytes where there is none
abbrev pub held_bytes : List Command → Fp → List ℕ
held_bytes list fp = unwrap_or (held_string list fp) []

-- the recipe that a command brings
abbrev pub recipes_of : Command → List (List ℕ)
recipes_of (commands.Put user shares) = []
recipes_of (commands.Commit user tag version recipe) = recipe ∷ []
recipes_of (commands.Delete user tag version) = []

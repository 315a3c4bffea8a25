-- A list of commands without what it lost: what each user owns, in order, and then each entry.
use Rattle.std.specs.Prelude.{ℕ, zero, suc, ◌==◌, nat_lt, List, [], ◌∷◌, ◌++◌, length, map, take, drop, Option, Some, None, if◌then◌else◌}
use Rattle.std.specs.List.{flat_map}
use Rattle.std.specs.Ordering.{match_ordering}
use Rattle.journal_start.specs.CdBase.ids.Fp.{Fp}
use Rattle.journal_start.specs.CdBase.ids.Tag.{Tag}
use Rattle.journal_start.specs.CdBase.ids.UserId.{UserId}
use Rattle.journal_start.specs.CdBase.ids.Version.{Version}
use Rattle.journal_start.specs.CdBase.shape.Shape.{Shape}
use Rattle.journal_start.specs.CdBase.Order.{fp_cmp}
use Rattle.user_dedup.specs.declared.file_list.FileEntry.{FileEntry}
use Rattle.user_dedup.specs.Pages.{key_of, entry_at, sorted_keys}
use Rattle.user_dedup.specs.declared.command.Command.{Command}
use Rattle.user_dedup.specs.declared.command.Command.TheVariants as commands
use Rattle.user_dedup.specs.Cloud.{user_of, user_view, held_bytes}

-- ---- order

-- rising numbers with one more, where it isn't there already
abbrev pub with_number : ℕ → List ℕ → List ℕ
with_number n [] = n ∷ []
with_number n (m ∷ ms) = if n == m then m ∷ ms else if nat_lt n m then n ∷ m ∷ ms else m ∷ with_number n ms

-- the numbers of the users that the commands are of, rising
abbrev pub users_in : List Command → List ℕ
users_in [] = []
users_in (c ∷ cs) = with_number (user_of c).0 (users_in cs)

abbrev pub with_fp : Fp → List Fp → List Fp
with_fp fp [] = fp ∷ []
with_fp fp (other ∷ fps) = match_ordering (fp_cmp fp.0 other.0) (fp ∷ other ∷ fps) (other ∷ fps) (other ∷ with_fp fp fps)

-- fingerprints in rising order, each once
abbrev pub sorted_fps : List Fp → List Fp
sorted_fps [] = []
sorted_fps (fp ∷ fps) = with_fp fp (sorted_fps fps)

-- ---- parts of at most 256

abbrev pub parts_by : ℕ → List Fp → List (List Fp)
parts_by zero fps = []
parts_by (suc steps) [] = []
parts_by (suc steps) (fp ∷ fps) = take 256 (fp ∷ fps) ∷ parts_by steps (drop 256 (fp ∷ fps))

abbrev pub in_parts : List Fp → List (List Fp)
in_parts fps = parts_by (length fps) fps

-- ---- the list

abbrev pub user_at : ℕ → UserId
user_at number = record { 0 = number }

-- the strings that a user owns, as they are held, in Puts that are full but for the last
abbrev pub puts_for : Shape → List Command → ℕ → List Command
puts_for shape list number =
    map (λ (fps : List Fp). commands.Put (user_at number) (map (held_bytes list) fps)) (in_parts (sorted_fps (user_view shape list (user_at number)).own))

abbrev pub commit_at : UserId → Option FileEntry → List Command
commit_at user None = []
commit_at user (Some e) = commands.Commit user e.tag e.version e.recipe ∷ []

-- the Commits of a user's entries, by tag and version
abbrev pub commits_for : Shape → List Command → ℕ → List Command
commits_for shape list number =
    let files = (user_view shape list (user_at number)).files in
    flat_map (λ (key : Tag × Version). commit_at (user_at number) (entry_at files key)) (sorted_keys (map key_of files))

-- the Puts of all users, and then the Commits
unfoldable pub compact : Shape → List Command → List Command
compact shape list = flat_map (puts_for shape list) (users_in list) ++ flat_map (commits_for shape list) (users_in list)

-- The numbers of a reclaim, by the list.
use Rattle.std.specs.Prelude.{◌≡◌, ℕ, List, length, map, Option, IsSome}
use Rattle.std.specs.List.{Contains, sum_by}
use Rattle.share_server.specs.CdBase.ids.Fp.{Fp}
use Rattle.share_server.specs.CdBase.shape.Shape.{Shape}
use Rattle.compact_memories.specs.FileIndex.key.FileKey.{FileKey}
use Rattle.compact_memories.specs.UserDedup.command.Command.{Command}
use Rattle.compact_memories.specs.UserDedup.file_list.FileEntry.{FileEntry}
use Rattle.compact_memories.specs.UserDedup.Cloud.{fingerprint, strings_in, user_view}
use Rattle.compact_memories.specs.UserDedup.Pages.{entry_at}
use Rattle.compact_memories.specs.CloudAreas.Checkpoints.{Lists}
use Rattle.compact_memories.specs.Checkpoints.Known.{recipe_or}
use Rattle.compact_memories.specs.CompactLists.Live.{IsAlive, bytes_held}
use Rattle.compact_memories.specs.declared.alive.Reclaimed.{Reclaimed}

-- It is the sum over all for which it is so, each counted once.
pub record SumsOver {X : Type 0} (P : X → Type 0) (f : X → ℕ) (sum : ℕ) : Type 0 where
  pub all : List X
  pub listed : Lists all P
  pub is : sum ≡ sum_by f all

-- a user's entry by the list
abbrev pub entry_of : Shape → List Command → FileKey → Option FileEntry
entry_of shape list key = entry_at (user_view shape list (record { 0 = key.user })).files (record { 0 = key.tag }, record { 0 = key.version })

abbrev pub HasEntryUnder : Shape → List Command → FileKey → Type 0
HasEntryUnder shape list key = IsSome (entry_of shape list key)

abbrev pub recipe_len : Shape → List Command → FileKey → ℕ
recipe_len shape list key = length (recipe_or (entry_of shape list key))

-- A string is held under the fingerprint, and no user owns it.
abbrev pub IsDead : Shape → List Command → Fp → Type 0
IsDead shape list fp = Contains (map fingerprint (strings_in list)) fp × ¬ (IsAlive shape list fp)

-- The bytes held under each fingerprint that some user owns, those of each entry's recipe, and how many fingerprints have a string that no user owns.
pub record IsSumOf (shape : Shape) (list : List Command) (sum : Reclaimed) : Type 0 where
  pub shares : SumsOver (IsAlive shape list) (bytes_held list) sum.shares
  pub recipes : SumsOver (HasEntryUnder shape list) (recipe_len shape list) sum.recipes
  pub dropped : SumsOver (IsDead shape list) (λ (fp : Fp). 1) sum.dropped

-- What of a list is alive: what its users own and have.
use Rattle.std.specs.Prelude.{ℕ, ◌+◌, ◌/◌, List, length}
use Rattle.std.specs.List.{sum_by, Contains}
use Rattle.user_dedup.specs.CdBase.ids.Fp.{Fp}
use Rattle.user_dedup.specs.CdBase.ids.UserId.{UserId}
use Rattle.user_dedup.specs.CdBase.shape.Shape.{Shape}
use Rattle.user_dedup.specs.declared.file_list.FileEntry.{FileEntry}
use Rattle.user_dedup.specs.declared.command.Command.{Command}
use Rattle.user_dedup.specs.Cloud.{user_view, held_bytes}
use Rattle.user_dedup.specs.Spending.{SpentByUser}

-- how many bytes are held under a fingerprint
abbrev pub bytes_held : List Command → Fp → ℕ
bytes_held list fp = length (held_bytes list fp)

-- what a user keeps: what it owns, the bytes held under that, and the bytes of its entries' recipes
abbrev pub live_of : Shape → List Command → UserId → SpentByUser
live_of shape list user = record {
  owners = length (user_view shape list user).own;
  shares = sum_by (bytes_held list) (user_view shape list user).own;
  recipes = sum_by (λ (e : FileEntry). length e.recipe) (user_view shape list user).files;
}

-- how many 256s so many fingerprints begin
abbrev pub begun_in : ℕ → ℕ
begun_in count = (count + 255) / 256

-- some user owns the fingerprint
abbrev pub IsAlive : Shape → List Command → Fp → Type 0
IsAlive shape list fp = (user : UserId) × Contains (user_view shape list user).own fp

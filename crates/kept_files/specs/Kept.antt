-- What a cloud keeps of a version of a file.
use Rattle.std.specs.Prelude.{◌≡◌, ℕ, List, All, Some, option_map}
use Rattle.std.specs.List.{Contains, flat_map}
use Rattle.file_recipe.specs.CdBase.ids.Tag.{Tag}
use Rattle.file_recipe.specs.CdBase.ids.UserId.{UserId}
use Rattle.file_recipe.specs.CdBase.ids.Version.{Version}
use Rattle.file_recipe.specs.CdBase.shape.Shape.{Shape}
use Rattle.restore_job.specs.CaontRs.Package.{share, tag}
use Rattle.file_recipe.specs.FileRecipe.{secrets, recipe_bytes}
use Rattle.restore_job.specs.Messages.request.Request.{Request}
use Rattle.restore_job.specs.Messages.request.Request.TheVariants as requests
use Rattle.restore_job.specs.UserDedup.Cloud.{fingerprint, user_view, strings_of, held_string}
use Rattle.restore_job.specs.UserDedup.Dedup.{TakesVersionOut}
use Rattle.restore_job.specs.UserDedup.Pages.{entry_at}
use Rattle.restore_job.specs.UserDedup.command.Command.{Command}

-- what names a version of a file: the tag of its path, and its number
abbrev pub key_of : Shape → List ℕ → Version → Tag × Version
key_of shape path version = (record { 0 = tag shape path }, version)

-- the Commit that enters the version at this cloud
abbrev pub commit_of : Shape → ℕ → UserId → List ℕ → Version → List ℕ → Request
commit_of shape cloud user path version file =
    requests.Commit user (record { 0 = tag shape path }) version (recipe_bytes shape cloud path file)

-- none of the commands takes the version of the user's file out
abbrev pub AreHarmless : UserId → Tag × Version → List Command → Type 0
AreHarmless user key list = All (λ command. ¬ TakesVersionOut user key command) list

-- The user's entry is the version's recipe at this cloud, and each of its shares is held under its own SHA-256.
pub record Keeps (shape : Shape) (cloud : ℕ) (list : List Command) (user : UserId) (path : List ℕ) (version : Version) (file : List ℕ) : Type 0 where
  pub entry : option_map (λ entry. entry.recipe) (entry_at (user_view shape list user).files (key_of shape path version)) ≡ Some (recipe_bytes shape cloud path file)
  pub shares : All (λ secret. held_string list (fingerprint (share shape cloud secret)) ≡ Some (share shape cloud secret)) (secrets file)

-- No string of the list has the SHA-256 of a share of the file at this cloud, but for that share itself.
abbrev pub IsWithoutCollision : Shape → ℕ → List Command → List ℕ → Type 0
IsWithoutCollision shape cloud list file = (string secret : List ℕ) → Contains (flat_map strings_of list) string → Contains (secrets file) secret
    → fingerprint string ≡ fingerprint (share shape cloud secret) → string ≡ share shape cloud secret

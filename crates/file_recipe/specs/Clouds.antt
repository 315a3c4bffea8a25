-- What each cloud gets of a file.
use Rattle.std.specs.Prelude.{ℕ, List, map}
use Rattle.std.specs.List.{range_with_len}
use Rattle.rabin_chunker.specs.CdBase.shape.Shape.{Shape}
use Rattle.file_recipe.specs.FileRecipe.{recipe_of, shares_at}
use Rattle.file_recipe.specs.declared.cloud_file.CloudFile.{CloudFile}

abbrev pub cloud_file : Shape → ℕ → List ℕ → List ℕ → CloudFile
cloud_file s j path file = record { recipe = recipe_of s j path file; shares = shares_at s j file }

-- those of so many clouds, from the first of them on
abbrev pub files_from : Shape → ℕ → ℕ → List ℕ → List ℕ → List CloudFile
files_from s first clouds path file = map (λ j. cloud_file s j path file) (range_with_len first clouds)

-- that of each cloud, in the order of their numbers
unfoldable pub dispersed : Shape → List ℕ → List ℕ → List CloudFile
dispersed s path file = map (λ j. cloud_file s j path file) (range_with_len 0 s.n)

-- The recipe names the lane's shares.
use Rattle.std.proofs.Common.{◌≡◌, ℕ, ◌≤◌, List, [], ◌∷◌, length, map, Ok, refl, ap, ◌∙◌}
use Rattle.user_dedup.specs.CdBase.ids.Fp.{Fp}
use Rattle.user_dedup.specs.CdBase.shape.Shape.{Shape}
use Rattle.user_dedup.specs.CdBase.Limits.{IsPath}
use Rattle.file_recipe.specs.CaontRs.Package.{share}
use Rattle.user_dedup.specs.Recipe.Reading.{recipe_at}
use Rattle.user_dedup.proofs.RecipeLaws.Written.{again}
use Rattle.file_recipe.specs.FileRecipe.{secrets, item_of, recipe_of, recipe_bytes}
use Rattle.file_recipe.proofs.Recipes.{recipe_fits}
use Rattle.user_dedup.specs.Cloud.{fingerprint}
use Rattle.user_dedup.specs.Owning.{fps_in}
use Rattle.user_dedup.specs.Requests.{fps_of, fps_read}
use Rattle.upload_job.specs.Upload.{shares_for}

names : (s : Shape) (j : ℕ) (xs : List (List ℕ)) → fps_in (map (item_of s j) xs) ≡ map fingerprint (map (share s j) xs)
names s j [] = refl
names s j (x ∷ xs) = ap (λ (fs : List Fp). fingerprint (share s j x) ∷ fs) (names s j xs)

pub recipe_read : (s : Shape) (j : ℕ) (path file : List ℕ) → IsPath path → length file ≤ 67108864 → recipe_at s (recipe_bytes s j path file) ≡ Ok (recipe_of s j path file)
recipe_read s j path file name few = again s (recipe_of s j path file) (recipe_fits s j path file name few)

pub fps_named : (s : Shape) (j : ℕ) (path file : List ℕ) → IsPath path → length file ≤ 67108864 → fps_of s (recipe_bytes s j path file) ≡ map fingerprint (shares_for s j file)
fps_named s j path file name few = ap fps_read (recipe_read s j path file name few) ∙ names s j (secrets file)

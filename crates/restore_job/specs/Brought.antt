-- What a restored file follows from, told or not: a recipe from each cloud, and for each secret a string from each cloud.
use Rattle.std.specs.Prelude.{◌≡◌, ℕ, zero, suc, List, [], ◌∷◌, ◌++◌, length, All, None, Ok}
use Rattle.sha2.specs.Sha256.{sha256 as sha256_of}
use Rattle.user_dedup.specs.CdBase.shape.Shape.{Shape}
use Rattle.caont_rs.specs.Opening.{opened}
use Rattle.user_dedup.specs.Recipe.Spelling.{Fits}
use Rattle.user_dedup.specs.Recipe.items.Item.{Item}
use Rattle.user_dedup.specs.Recipe.recipe.Recipe.{Recipe}
use Rattle.restore_job.specs.Restored.{item_of, difference}

-- for each recipe, in order, a string with the fingerprint of its item i
abbrev pub AreStringsOfItem : List Recipe → ℕ → List (List ℕ) → Type 0
AreStringsOfItem [] i [] = Unit {0}
AreStringsOfItem [] i (s ∷ strings) = ⊥
AreStringsOfItem (r ∷ recipes) i [] = ⊥
AreStringsOfItem (r ∷ recipes) i (s ∷ strings) = (sha256_of s ≡ (item_of r.items i).fp.0)
    × AreStringsOfItem recipes i strings

-- strings, one behind the other
abbrev pub in_a_row : List (List ℕ) → List ℕ
in_a_row [] = []
in_a_row (s ∷ strings) = s ++ in_a_row strings

-- a room has such strings more
abbrev pub HasShares : List Recipe → ℕ → List ℕ → List ℕ → Type 0
HasShares recipes i old new = (strings : List (List ℕ)) × AreStringsOfItem recipes i strings
    × (new ≡ old ++ in_a_row strings)

-- secret i is what such strings open to
pub record IsSecret (shape : Shape) (clouds : List ℕ) (firsts : List Item) (recipes : List Recipe) (i : ℕ) (secret : List ℕ) : Type 0 where
  pub strings : List (List ℕ)
  pub shares : AreStringsOfItem recipes i strings
  pub opens : opened shape (item_of firsts i).secret_len clouds (in_a_row strings) ≡ Ok secret

-- the first so many secrets, one behind the other
abbrev pub AreSecrets : Shape → List ℕ → List Item → List Recipe → ℕ → List ℕ → Type 0
AreSecrets shape clouds firsts recipes zero bytes = bytes ≡ []
AreSecrets shape clouds firsts recipes (suc n) bytes =
    (front : List ℕ) × (secret : List ℕ) × (bytes ≡ front ++ secret) × AreSecrets shape clouds firsts recipes n front × IsSecret shape clouds firsts recipes n secret

-- the secrets from one place to another were appended
abbrev pub Extends : Shape → List ℕ → List Item → List Recipe → ℕ → ℕ → List ℕ → List ℕ → Type 0
Extends shape clouds firsts recipes from to old new =
    (more : List ℕ) × (new ≡ old ++ more) × ((front : List ℕ) → AreSecrets shape clouds firsts recipes from front → AreSecrets shape clouds firsts recipes to (front ++ more))

-- the items of the first recipe
abbrev pub first_items : List Recipe → List Item
first_items [] = []
first_items (r ∷ recipes) = r.items

-- none differs from the first one
abbrev pub Agree : List Recipe → Type 0
Agree [] = Unit {0}
Agree (r ∷ recipes) = All (λ other. difference r other ≡ None) recipes

-- all secrets were appended
abbrev pub AppendsSecrets : Shape → List ℕ → List Recipe → List ℕ → List ℕ → Type 0
AppendsSecrets shape clouds recipes old new =
    (file : List ℕ) × (new ≡ old ++ file) × AreSecrets shape clouds (first_items recipes) recipes (length (first_items recipes)) file

-- The appended bytes are the secrets, one behind the other, of recipes that agree: one of the shape for each cloud.
pub record Brought (shape : Shape) (clouds old new : List ℕ) : Type 0 where
  pub recipes : List Recipe
  pub count : length recipes ≡ length clouds
  pub fits : All (Fits shape) recipes
  pub agree : Agree recipes
  pub appends : AppendsSecrets shape clouds recipes old new

-- Which content asks something of a store of some shape: requests, where the recipe of a Commit is one of that shape.
use Rattle.std.specs.Prelude.{ℕ, ◌+◌, List, [], Result, Ok, Err}
use Rattle.journal_start.specs.CdBase.ids.Fp.{Fp}
use Rattle.journal_start.specs.CdBase.ids.UserId.{UserId}
use Rattle.journal_start.specs.CdBase.shape.Shape.{Shape}
use Rattle.recipe.specs.declared.recipe.Recipe.{Recipe}
use Rattle.recipe.specs.Spelling.{IsRecipe}
use Rattle.recipe.specs.Reading.{recipe_at}
use Rattle.messages.specs.declared.request.Request.{Request}
use Rattle.messages.specs.declared.request.Request.TheVariants as requests
use Rattle.messages.specs.Requests.{IsRequest}
use Rattle.messages.specs.RequestReading.{request_at}
use Rattle.user_dedup.specs.Owning.{fps_in}

abbrev pub fps_read : Result Recipe ℕ → List Fp
fps_read (Ok recipe) = fps_in recipe.items
fps_read (Err at) = []

-- the fingerprints of the items of a recipe of this shape, or none where the bytes are no such recipe
abbrev pub fps_of : Shape → List ℕ → List Fp
fps_of shape bytes = fps_read (recipe_at shape bytes)

-- the recipe of a Commit is one of this shape
abbrev pub HasRecipe : Shape → Request → Type 0
HasRecipe shape requests.Hello = Unit {0}
HasRecipe shape (requests.Query user fps) = Unit {0}
HasRecipe shape (requests.Put user shares) = Unit {0}
HasRecipe shape (requests.Commit user tag version recipe) = (r : Recipe) × IsRecipe shape recipe r
HasRecipe shape (requests.GetRecipe user tag version) = Unit {0}
HasRecipe shape (requests.GetShares user fps) = Unit {0}
HasRecipe shape (requests.List user after) = Unit {0}
HasRecipe shape (requests.Delete user tag version) = Unit {0}

-- The content asks this of a store of this shape.
pub record AsksOfStore (shape : Shape) (content : List ℕ) (request : Request) : Type 0 where
  pub asked : IsRequest content request
  pub recipe : HasRecipe shape request

-- the place in front of the recipe of a Commit: behind the kind, the user, the tag and the version
abbrev pub recipe_place : ℕ
recipe_place = 45

abbrev pub recipe_read : Request → Result Recipe ℕ → Result Request ℕ
recipe_read request (Ok recipe) = Ok request
recipe_read request (Err at) = Err (recipe_place + at)

-- a Commit's recipe is read too
abbrev pub whole_read : Shape → Result Request ℕ → Result Request ℕ
whole_read shape (Err at) = Err at
whole_read shape (Ok requests.Hello) = Ok requests.Hello
whole_read shape (Ok (requests.Query user fps)) = Ok (requests.Query user fps)
whole_read shape (Ok (requests.Put user shares)) = Ok (requests.Put user shares)
whole_read shape (Ok (requests.Commit user tag version recipe)) = recipe_read (requests.Commit user tag version recipe) (recipe_at shape recipe)
whole_read shape (Ok (requests.GetRecipe user tag version)) = Ok (requests.GetRecipe user tag version)
whole_read shape (Ok (requests.GetShares user fps)) = Ok (requests.GetShares user fps)
whole_read shape (Ok (requests.List user after)) = Ok (requests.List user after)
whole_read shape (Ok (requests.Delete user tag version)) = Ok (requests.Delete user tag version)

-- the request that the content asks, or the first place at which it is none
abbrev pub asked_at : Shape → List ℕ → Result Request ℕ
asked_at shape content = whole_read shape (request_at content)

-- the user that asks; Hello names none
abbrev pub asker : Request → UserId
asker requests.Hello = record { 0 = 0 }
asker (requests.Query user fps) = user
asker (requests.Put user shares) = user
asker (requests.Commit user tag version recipe) = user
asker (requests.GetRecipe user tag version) = user
asker (requests.GetShares user fps) = user
asker (requests.List user after) = user
asker (requests.Delete user tag version) = user

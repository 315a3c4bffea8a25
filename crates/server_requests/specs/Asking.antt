-- What is asked, as a request.
use Rattle.std.specs.Prelude.{ℕ, List, []}
use Rattle.server_commands.specs.CdBase.shape.Shape.{Shape}
use Rattle.server_commands.specs.Messages.request.Request.{Request}
use Rattle.server_commands.specs.Messages.request.Request.TheVariants as requests
use Rattle.server_commands.specs.Recipe.Spelling.{Fits, spelling}
use Rattle.server_requests.specs.declared.asked.StoreRequest.{StoreRequest}
use Rattle.server_requests.specs.declared.asked.StoreRequest.TheVariants as asks

-- the request that is asked; a Commit's recipe is the spelling of the one that was read
abbrev pub request_of : StoreRequest → Request
request_of asks.Hello = requests.Hello
request_of (asks.Query user fps) = requests.Query user fps
request_of (asks.Put user shares) = requests.Put user shares
request_of (asks.Commit user tag version recipe) = requests.Commit user tag version (spelling recipe)
request_of (asks.GetRecipe user tag version) = requests.GetRecipe user tag version
request_of (asks.GetShares user fps) = requests.GetShares user fps
request_of (asks.List user after) = requests.List user after
request_of (asks.Delete user tag version) = requests.Delete user tag version

-- a Commit's recipe keeps the rules of this shape
abbrev pub IsOfShape : Shape → StoreRequest → Type 0
IsOfShape shape asks.Hello = Unit {0}
IsOfShape shape (asks.Query user fps) = Unit {0}
IsOfShape shape (asks.Put user shares) = Unit {0}
IsOfShape shape (asks.Commit user tag version recipe) = Fits shape recipe
IsOfShape shape (asks.GetRecipe user tag version) = Unit {0}
IsOfShape shape (asks.GetShares user fps) = Unit {0}
IsOfShape shape (asks.List user after) = Unit {0}
IsOfShape shape (asks.Delete user tag version) = Unit {0}

-- the bytes of a Commit's recipe
abbrev pub recipe_in : Request → List ℕ
recipe_in requests.Hello = []
recipe_in (requests.Query user fps) = []
recipe_in (requests.Put user shares) = []
recipe_in (requests.Commit user tag version recipe) = recipe
recipe_in (requests.GetRecipe user tag version) = []
recipe_in (requests.GetShares user fps) = []
recipe_in (requests.List user after) = []
recipe_in (requests.Delete user tag version) = []

-- a request that a server answers by its memory alone
abbrev pub IsForMemory : Request → Type 0
IsForMemory requests.Hello = Unit {0}
IsForMemory (requests.Query user fps) = Unit {0}
IsForMemory (requests.Put user shares) = ⊥
IsForMemory (requests.Commit user tag version recipe) = ⊥
IsForMemory (requests.GetRecipe user tag version) = ⊥
IsForMemory (requests.GetShares user fps) = ⊥
IsForMemory (requests.List user after) = Unit {0}
IsForMemory (requests.Delete user tag version) = ⊥

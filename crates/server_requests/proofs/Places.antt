-- Places in the content of a request.
use Rattle.std.proofs.Common.{◌≡◌, ℕ, ◌+◌, ◌-◌, ◌<◌, ◌≤◌, ◌^◌, List, ◌++◌, length, Result, Ok, Err, arith, ap, ◌∙◌, length-append}
use Rattle.std.specs.Prelude.{IfOk, MatchResult}
use Rattle.std.specs.Int.{w32, w64, to_be_bytes}
use Rattle.server_commands.specs.CdBase.Reading.{AreBytes}
use Rattle.server_commands.specs.CdBase.shape.Shape.{Shape}
use Rattle.server_commands.specs.MessageFields.Keys.{key_bytes}
use Rattle.server_commands.specs.Messages.request.Request.{Request}
use Rattle.server_commands.specs.Messages.request.Request.TheVariants as requests
use Rattle.server_commands.specs.Messages.Requests.{FitsRequest, IsRequest}
use Rattle.server_commands.specs.Messages.RequestReading.{request_at}
use Rattle.server_commands.specs.Recipe.Reading.{recipe_left, recipe_at, placed}
use Rattle.server_commands.specs.UserDedup.Requests.{HasRecipe, whole_read}
use Rattle.server_commands.proofs.UserDedup.Asked.{asked_law}
use Rattle.server_requests.specs.declared.asked.StoreRequest.{StoreRequest}
use Rattle.server_requests.specs.Asking.{request_of, recipe_in}

placed_within : {A : Type 0} (bytes : List ℕ) (r : Result A ℕ) (at : ℕ) → placed bytes r ≡ Err at → at ≤ length bytes
placed_within bytes (Ok value) at e = absurd (cc)
placed_within bytes (Err left) at e =
    let same : length bytes - left ≡ at = cc in
    omega arith

-- a wrong place of a recipe is one of its bytes, or the one behind them
pub recipe_within : (shape : Shape) (bytes : List ℕ) (at : ℕ) → recipe_at shape bytes ≡ Err at → at ≤ length bytes
unfolding recipe_at
recipe_within shape bytes at e = placed_within bytes (recipe_left shape bytes) at e

-- the recipe of a Commit stands behind 45 bytes
pub behind_front : (content : List ℕ) (r : Request) → IsRequest content r → length content < 2 ^ 32 → 45 + length (recipe_in r) < 2 ^ 32
behind_front content requests.Hello is few = omega arith
behind_front content (requests.Query user fps) is few = omega arith
behind_front content (requests.Put user shares) is few = omega arith
behind_front content (requests.Commit user tag version recipe) is few =
    let front = to_be_bytes w32 user.0 ++ key_bytes (tag, version) in
    omega (arith, ap length is.spelled, length-append front recipe, length-append (to_be_bytes w32 user.0) (key_bytes (tag, version)), length-append tag.0 (to_be_bytes w64 version.0), is.fits.0.1)
behind_front content (requests.GetRecipe user tag version) is few = omega arith
behind_front content (requests.GetShares user fps) is few = omega arith
behind_front content (requests.List user after) is few = omega arith
behind_front content (requests.Delete user tag version) is few = omega arith

-- what is asked has each field in its range
pub ranged : (shape : Shape) (content : List ℕ) (q : Request) (r : Result StoreRequest ℕ) → AreBytes content → request_at content ≡ Ok q
    → MatchResult r (λ (asked : StoreRequest). whole_read shape (Ok q) ≡ Ok (request_of asked)) (λ (at : ℕ). whole_read shape (Ok q) ≡ Err at)
    → IfOk r (λ (asked : StoreRequest). FitsRequest (request_of asked) × HasRecipe shape (request_of asked))
ranged shape content q (Err at) known is e = tt
ranged shape content q (Ok asked) known is e =
    let all = (asked_law shape content (request_of asked) known).0 (ap (whole_read shape) is ∙ e) in
    (all.asked.fits, all.recipe)

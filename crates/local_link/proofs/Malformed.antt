-- The place at which content is no request fits its field.
use Rattle.std.proofs.Common.{◌≡◌, ℕ, ◌+◌, ◌-◌, ◌<◌, ◌≤◌, ◌^◌, List, ◌++◌, length, Result, Ok, Err, refl, ap, arith, length-append}
use Rattle.std.specs.Int.{w32, to_be_bytes}
use Rattle.share_server.specs.CdBase.Reading.{AreBytes}
use Rattle.share_server.specs.CdBase.shape.Shape.{Shape}
use Rattle.share_server.specs.MessageFields.Keys.{key_bytes}
use Rattle.share_server.specs.Recipe.Reading.{recipe_at}
use Rattle.share_server.specs.Messages.request.Request.{Request}
use Rattle.share_server.specs.Messages.request.Request.TheVariants as requests
use Rattle.share_server.specs.Messages.Requests.{request_bytes}
use Rattle.share_server.specs.Messages.RequestReading.{request_at}
use Rattle.share_server.proofs.Messages.RequestLaws.{request_law}
use Rattle.share_server.proofs.UserDedup.Asked.{bad, recipe_within, request_within, read_err}
use Rattle.share_server.specs.UserDedup.Requests.{whole_read, asked_at}

-- the recipe of a Commit is a part of the content
abbrev Within : Request → ℕ → Type 0
Within requests.Hello most = Unit {0}
Within (requests.Query user fps) most = Unit {0}
Within (requests.Put user shares) most = Unit {0}
Within (requests.Commit user tag version recipe) most = length recipe ≤ most
Within (requests.GetRecipe user tag version) most = Unit {0}
Within (requests.GetShares user fps) most = Unit {0}
Within (requests.List user after) most = Unit {0}
Within (requests.Delete user tag version) most = Unit {0}

within : (content : List ℕ) (r : Request) → content ≡ request_bytes r → length content ≤ 4194304 → Within r 4194304
within content requests.Hello e few = tt
within content (requests.Query user fps) e few = tt
within content (requests.Put user shares) e few = tt
within content (requests.Commit user tag version recipe) e few =
    let n = ap length e in
    omega (arith, n, length-append (to_be_bytes w32 user.0 ++ key_bytes (tag, version)) recipe)
within content (requests.GetRecipe user tag version) e few = tt
within content (requests.GetShares user fps) e few = tt
within content (requests.List user after) e few = tt
within content (requests.Delete user tag version) e few = tt

whole_err : (shape : Shape) (q : Request) (at : ℕ) → Within q 4194304 → whole_read shape (Ok q) ≡ Err at → at < 2 ^ 32
whole_err shape requests.Hello at few e = absurd (let f : Ok requests.Hello ≡ bad at = e in cc)
whole_err shape (requests.Query user fps) at few e = absurd (let f : Ok (requests.Query user fps) ≡ bad at = e in cc)
whole_err shape (requests.Put user shares) at few e = absurd (let f : Ok (requests.Put user shares) ≡ bad at = e in cc)
whole_err shape (requests.Commit user tag version recipe) at few e =
    let r = read_err (requests.Commit user tag version recipe) (recipe_at shape recipe) at e in
    let within = recipe_within shape recipe r.0 r.1 in
    let same = r.2 in
    omega arith
whole_err shape (requests.GetRecipe user tag version) at few e = absurd (let f : Ok (requests.GetRecipe user tag version) ≡ bad at = e in cc)
whole_err shape (requests.GetShares user fps) at few e = absurd (let f : Ok (requests.GetShares user fps) ≡ bad at = e in cc)
whole_err shape (requests.List user after) at few e = absurd (let f : Ok (requests.List user after) ≡ bad at = e in cc)
whole_err shape (requests.Delete user tag version) at few e = absurd (let f : Ok (requests.Delete user tag version) ≡ bad at = e in cc)

pub place_fits : (shape : Shape) (content : List ℕ) (at : ℕ) → AreBytes content → length content ≤ 4194304 → asked_at shape content ≡ Err at → at < 2 ^ 32
place_fits shape content at known few e = go (request_at content) refl e
  where
    go : (r : Result Request ℕ) → request_at content ≡ r → whole_read shape r ≡ Err at → at < 2 ^ 32
    go (Err p) is e = let within = request_within content p is in let f : bad {A = Request} p ≡ bad at = e in let same : p ≡ at = cc in omega arith
    go (Ok q) is e = whole_err shape q at (within content q ((request_law content q known).0 is).spelled few) e

-- The three requests of a lane: a cloud reads what is written, and it fits into a frame.
use Rattle.std.proofs.Common.{◌≡◌, ℕ, ◌*◌, ◌<◌, ◌≤◌, ◌^◌, List, [], ◌∷◌, ◌++◌, length, Ok, refl, ap, ◌∙◌, arith, length-append}
use Rattle.std.specs.Int.{w32, w64, to_be_bytes}
use Rattle.std.specs.List.{flat_map, AllByRecursion}
use Rattle.std.proofs.lemmas.List.Concat.{flat_map-cons}
use Rattle.std.proofs.lemmas.List.Elements.{recursion_from_All}
use Rattle.grammar.specs.CdBase.ids.Fp.{Fp}
use Rattle.grammar.specs.CdBase.ids.Tag.{Tag}
use Rattle.grammar.specs.CdBase.ids.UserId.{UserId}
use Rattle.grammar.specs.CdBase.ids.Version.{Version}
use Rattle.grammar.specs.CdBase.shape.Shape.{Shape}
use Rattle.upload_job.specs.MessageFields.Fingerprints.{AreFps}
use Rattle.upload_job.specs.MessageFields.Shares.{share_bytes, IsShare, AreShares}
use Rattle.upload_job.specs.MessageFields.Keys.{key_bytes, IsKey}
use Rattle.upload_job.specs.Messages.request.Request.{Request}
use Rattle.upload_job.specs.Messages.request.Request.TheVariants as requests
use Rattle.upload_job.specs.Messages.Parts.{placed}
use Rattle.upload_job.specs.Messages.Requests.{request_bytes, FitsRequest}
use Rattle.upload_job.specs.Messages.RequestReading.{fields_left, request_left, request_at}
use Rattle.upload_job.specs.Recipe.recipe.Recipe.{Recipe}
use Rattle.upload_job.specs.Recipe.Spelling.{IsRecipe}
use Rattle.upload_job.specs.Recipe.Reading.{recipe_at}
use Rattle.upload_job.proofs.RecipeLaws.Written.{again, longest, length-spelling}
use Rattle.upload_job.proofs.Messages.RequestLaws.{query_laws, put_laws, commit_laws}
use Rattle.upload_job.specs.UserDedup.Requests.{HasRecipe, recipe_read, whole_read, asked_at}

-- A cloud of the shape reads the request from its bytes, which are a frame's.
pub record IsSent (shape : Shape) (request : Request) : Type 0 where
  pub fits : FitsRequest request × HasRecipe shape request
  pub read : asked_at shape (request_bytes request) ≡ Ok request
  pub some : 1 ≤ length (request_bytes request)
  pub framed : length (request_bytes request) ≤ 4194304

-- ---- what is written is read

read_by : (r : Request) → request_left (request_bytes r) ≡ Ok r → request_at (request_bytes r) ≡ Ok r
unfolding request_at
read_by r e = ap (placed (request_bytes r)) e

query_left-again : (user : UserId) (fps : List Fp) → (user.0 < 2 ^ 32) × AreFps fps → request_left (request_bytes (requests.Query user fps)) ≡ Ok (requests.Query user fps)
unfolding request_left fields_left
query_left-again user fps fits = query_laws.again (user.0, fps) fits

put_left-again : (user : UserId) (shares : List (List ℕ)) → (user.0 < 2 ^ 32) × AreShares shares → request_left (request_bytes (requests.Put user shares)) ≡ Ok (requests.Put user shares)
unfolding request_left fields_left
put_left-again user shares fits = put_laws.again (user.0, shares) fits

commit_left-again : (user : UserId) (tag : Tag) (version : Version) (recipe : List ℕ) → ((user.0 < 2 ^ 32) × IsKey (tag, version)) × (1 ≤ length recipe)
    → request_left (request_bytes (requests.Commit user tag version recipe)) ≡ Ok (requests.Commit user tag version recipe)
unfolding request_left fields_left
commit_left-again user tag version recipe fits = commit_laws.again ((user.0, (tag, version)), recipe) fits

recipe_again : (shape : Shape) (recipe : List ℕ) (r : Recipe) → IsRecipe shape recipe r → recipe_at shape recipe ≡ Ok r
recipe_again shape recipe r is = ap (recipe_at shape) is.spelled ∙ again shape r is.fits

-- ---- how long it is

fps_long : (fps : List Fp) → AllByRecursion (λ (fp : Fp). length fp.0 ≡ 32) fps → length (flat_map (λ (fp : Fp). fp.0) fps) ≡ 32 * length fps
fps_long [] h = refl
fps_long (fp ∷ fps) h =
    ap length (flat_map-cons (λ (x : Fp). x.0) fp fps) ∙ length-append fp.0 (flat_map (λ (x : Fp). x.0) fps)
    ∙ omega (arith, h.0, fps_long fps h.1)

shares_long : (shares : List (List ℕ)) → AllByRecursion IsShare shares → length (flat_map share_bytes shares) ≤ 8212 * length shares
shares_long [] h = omega arith
shares_long (s ∷ ss) h =
    let cons = ap length (flat_map-cons share_bytes s ss) in
    let both = length-append (share_bytes s) (flat_map share_bytes ss) in
    let here = length-append (to_be_bytes w32 (length s)) s in
    omega (arith, h.0.1, shares_long ss h.1)

-- ---- the three

pub query_sent : (shape : Shape) (user : UserId) (fps : List Fp) → user.0 < 2 ^ 32 → AreFps fps → IsSent shape (requests.Query user fps)
query_sent shape user fps known are =
    let long = fps_long fps (recursion_from_All (λ (fp : Fp). length fp.0 ≡ 32) fps are.1) in
    record {
      fits = ((known, are), tt);
      read = ap (whole_read shape) (read_by (requests.Query user fps) (query_left-again user fps (known, are)));
      some = omega arith;
      framed = omega (arith, are.0.1);
    }

pub put_sent : (shape : Shape) (user : UserId) (shares : List (List ℕ)) → user.0 < 2 ^ 32 → AreShares shares → IsSent shape (requests.Put user shares)
put_sent shape user shares known are =
    let long = shares_long shares (recursion_from_All IsShare shares are.1) in
    record {
      fits = ((known, are), tt);
      read = ap (whole_read shape) (read_by (requests.Put user shares) (put_left-again user shares (known, are)));
      some = omega arith;
      framed = omega (arith, are.0.1);
    }

pub commit_sent : (shape : Shape) (user : UserId) (tag : Tag) (version : Version) (recipe : List ℕ) (r : Recipe) → user.0 < 2 ^ 32 → IsKey (tag, version) → IsRecipe shape recipe r → IsSent shape (requests.Commit user tag version recipe)
commit_sent shape user tag version recipe r known key is =
    let most = longest shape r is.fits in
    let least = length-spelling shape r is.fits in
    let same = ap length is.spelled in
    let some : 1 ≤ length recipe = omega arith in
    let front = length-append (to_be_bytes w32 user.0 ++ key_bytes (tag, version)) recipe in
    let head = length-append (to_be_bytes w32 user.0) (key_bytes (tag, version)) in
    let keyed = length-append tag.0 (to_be_bytes w64 version.0) in
    record {
      fits = (((known, key), some), (r, is));
      read =
          ap (whole_read shape) (read_by (requests.Commit user tag version recipe) (commit_left-again user tag version recipe ((known, key), some)))
          ∙ ap (recipe_read (requests.Commit user tag version recipe)) (recipe_again shape recipe r is);
      some = omega arith;
      framed = omega (arith, key.0);
    }

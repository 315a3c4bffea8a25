-- What reading the content of a request gives: fields from left to right.
use Rattle.std.specs.Prelude.{ℕ, List, [], ◌∷◌, length, Result, Err, ◌==◌, if◌then◌else◌}
use Rattle.std.specs.Int.{w32}
use Rattle.message_fields.specs.Grammar.Readers.{◌▷◌, whole, done_at}
use Rattle.message_fields.specs.Grammar.Fields.{number_at}
use Rattle.message_fields.specs.Fingerprints.{fps_at}
use Rattle.message_fields.specs.Shares.{shares_at}
use Rattle.message_fields.specs.Keys.{key_at}
use Rattle.messages.specs.declared.request.Request.{Request}
use Rattle.messages.specs.declared.request.Request.TheVariants as requests
use Rattle.messages.specs.Parts.{after_at, with_rest, placed}

unfoldable pub query_left : List ℕ → Result Request ℕ
query_left = whole (λ x. requests.Query (record { 0 = x.0 }) x.1) (number_at w32 ▷ fps_at)

unfoldable pub put_left : List ℕ → Result Request ℕ
put_left = whole (λ x. requests.Put (record { 0 = x.0 }) x.1) (number_at w32 ▷ shares_at)

unfoldable pub commit_left : List ℕ → Result Request ℕ
commit_left = with_rest (λ x. requests.Commit (record { 0 = x.0 }) x.1.0 x.1.1) (number_at w32 ▷ key_at)

unfoldable pub get_recipe_left : List ℕ → Result Request ℕ
get_recipe_left = whole (λ x. requests.GetRecipe (record { 0 = x.0 }) x.1.0 x.1.1) (number_at w32 ▷ key_at)

unfoldable pub get_shares_left : List ℕ → Result Request ℕ
get_shares_left = whole (λ x. requests.GetShares (record { 0 = x.0 }) x.1) (number_at w32 ▷ fps_at)

unfoldable pub list_left : List ℕ → Result Request ℕ
list_left = whole (λ x. requests.List (record { 0 = x.0 }) x.1) (number_at w32 ▷ after_at)

unfoldable pub delete_left : List ℕ → Result Request ℕ
delete_left = whole (λ x. requests.Delete (record { 0 = x.0 }) x.1.0 x.1.1) (number_at w32 ▷ key_at)

-- by the kind; an unknown one is wrong at its place
unfoldable pub fields_left : ℕ → List ℕ → Result Request ℕ
fields_left kind fields =
    if kind == 1 then done_at requests.Hello fields
    else if kind == 2 then query_left fields
    else if kind == 3 then put_left fields
    else if kind == 4 then commit_left fields
    else if kind == 5 then get_recipe_left fields
    else if kind == 6 then get_shares_left fields
    else if kind == 7 then list_left fields
    else if kind == 8 then delete_left fields
    else Err (length (kind ∷ fields))

unfoldable pub request_left : List ℕ → Result Request ℕ
request_left [] = Err 0
request_left (kind ∷ fields) = fields_left kind fields

-- the request that the bytes are, or the place of the first field that fails
unfoldable pub request_at : List ℕ → Result Request ℕ
request_at bytes = placed bytes (request_left bytes)

-- What reading a body of format 1 gives: fields from left to right. A reader's fault is how many bytes are left from the first
-- wrong place on, and so 0 where a field lacks bytes.
use Rattle.std.specs.Prelude.{ℕ, zero, suc, ◌-◌, ◌<◌, Bool, List, [], ◌∷◌, length, Option, Some, None, Result, Ok, Err, ◌==◌, nat_le, if◌then◌else◌}
use Rattle.std.specs.Int.{w16, w32, w64}
use Rattle.message_fields.specs.CdBase.place.Place.{Place}
use Rattle.message_fields.specs.Grammar.Readers.{◌▷◌, ◌▷▷◌}
use Rattle.message_fields.specs.Grammar.Fields.{number_at, bytes_at, checked}
use Rattle.message_fields.specs.Parts.{made, times}
use Rattle.message_fields.specs.Fingerprints.{is_batch}
use Rattle.message_fields.specs.Shares.{is_share_len}
use Rattle.record_body.specs.declared.body.PutItem.{PutItem}
use Rattle.record_body.specs.declared.body.CommitBody.{CommitBody}
use Rattle.record_body.specs.declared.body.BodyErr.{BodyErr}
use Rattle.record_body.specs.declared.body.BodyErr.TheVariants as errors
use Rattle.record_body.specs.FirstSpelling.{FirstBody, Put, Commit}

-- ---- an item of a Put

unfoldable pub place_at : List ℕ → Result (Place × List ℕ) ℕ
place_at = made (λ x. record { at = x.0; len = x.1 }) (number_at w64 ▷ checked is_share_len (number_at w32))

-- behind the flag; another flag than 0 and 1 is wrong at its place
abbrev pub behind_flag : ℕ → List ℕ → Result (Option Place × List ℕ) ℕ
behind_flag flag bytes =
    if flag == 0 then Ok (None, bytes)
    else if flag == 1 then made Some place_at bytes
    else Err (length (flag ∷ bytes))

unfoldable pub placed_at : List ℕ → Result (Option Place × List ℕ) ℕ
placed_at [] = Err 0
placed_at (flag ∷ bytes) = behind_flag flag bytes

unfoldable pub item_at : List ℕ → Result (PutItem × List ℕ) ℕ
item_at = made (λ x. record { fp = record { 0 = x.0 }; place = x.1 }) (bytes_at 32 ▷ placed_at)

-- ---- the kinds

-- the number of items, and so many of them
unfoldable pub items_at : List ℕ → Result (List PutItem × List ℕ) ℕ
items_at = made (λ x. x.1) (checked is_batch (number_at w16) ▷▷ times item_at)

unfoldable pub put_at : List ℕ → Result (FirstBody × List ℕ) ℕ
put_at = made (λ x. Put (record { 0 = x.0 }) x.1) (number_at w32 ▷ items_at)

-- a recipe has at least one byte
abbrev pub is_recipe_len : ℕ → Bool
is_recipe_len n = nat_le 1 n

abbrev pub make_commit : ℕ × (List ℕ × (ℕ × (ℕ × (ℕ × List ℕ)))) → CommitBody
make_commit x = record { user = record { 0 = x.0 }; tag = record { 0 = x.1.0 }; version = record { 0 = x.1.1.0 }; at = x.1.1.1.0; len = x.1.1.1.1.0; fp = record { 0 = x.1.1.1.1.1 } }

unfoldable pub commit_at : List ℕ → Result (FirstBody × List ℕ) ℕ
commit_at = made (λ x. Commit (make_commit x)) (number_at w32 ▷ (bytes_at 32 ▷ (number_at w64 ▷ (number_at w64 ▷ (checked is_recipe_len (number_at w32) ▷ bytes_at 32)))))

-- by the kind; an unknown one is wrong at its place
unfoldable pub fields_at : ℕ → List ℕ → Result (FirstBody × List ℕ) ℕ
fields_at kind fields =
    if kind == 1 then put_at fields
    else if kind == 2 then commit_at fields
    else Err (length (kind ∷ fields))

-- a body, and what follows it
unfoldable pub front_at : List ℕ → Result (FirstBody × List ℕ) ℕ
front_at [] = Err 0
front_at (kind ∷ fields) = fields_at kind fields

-- ---- all the bytes

-- the answer for so many bytes, counted from the front
abbrev pub judged : ℕ → Result (FirstBody × List ℕ) ℕ → Result FirstBody BodyErr
judged len (Ok (b, [])) = Ok b
judged len (Ok (b, x ∷ rest)) = Err (errors.Extra (len - length (x ∷ rest)))
judged len (Err zero) = Err errors.Short
judged len (Err (suc left)) = Err (errors.Field (len - suc left))

-- the body that the bytes are, or the first thing that fails
unfoldable pub body_at : List ℕ → Result FirstBody BodyErr
body_at bytes = judged (length bytes) (front_at bytes)

-- an error's place is one of so many bytes
abbrev pub IsPlaced : ℕ → BodyErr → Type 0
IsPlaced len (errors.Field at) = at < len
IsPlaced len errors.Short = Unit {0}
IsPlaced len (errors.Extra at) = at < len

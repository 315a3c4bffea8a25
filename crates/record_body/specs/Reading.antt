-- What reading a body gives: fields from left to right. A reader's fault is how many bytes are left from the first wrong place
-- on, and so 0 where a field lacks bytes.
use Rattle.std.specs.Prelude.{ℕ, zero, suc, ◌-◌, ◌&&◌, Bool, false, List, [], ◌∷◌, length, Result, Ok, Err, ◌==◌, nat_le, if◌then◌else◌}
use Rattle.std.specs.Int.{w16, w32, w64}
use Rattle.message_fields.specs.Grammar.Readers.{◌▷◌, ◌▷▷◌}
use Rattle.message_fields.specs.Grammar.Fields.{number_at, bytes_at, checked}
use Rattle.message_fields.specs.Parts.{made, times}
use Rattle.message_fields.specs.Fingerprints.{is_batch}
use Rattle.record_body.specs.declared.body.BodyErr.{BodyErr}
use Rattle.record_body.specs.declared.body.BodyErr.TheVariants as errors
use Rattle.record_body.specs.FirstReading.{place_at}
use Rattle.record_body.specs.FirstReading as first_reading
use Rattle.record_body.specs.FirstSpelling as first
use Rattle.record_body.specs.declared.body.DeleteBody.{DeleteBody}
use Rattle.record_body.specs.declared.body.KeptItem.{KeptItem}
use Rattle.record_body.specs.declared.body.SpentBody.{SpentBody}
use Rattle.record_body.specs.Spelling.{Body, Delete, Kept, Spent, lifted}

-- ---- the kinds

abbrev pub make_delete : ℕ × (List ℕ × ℕ) → DeleteBody
make_delete x = record { user = record { 0 = x.0 }; tag = record { 0 = x.1.0 }; version = record { 0 = x.1.1 } }

unfoldable pub delete_at : List ℕ → Result (Body × List ℕ) ℕ
delete_at = made (λ x. Delete (make_delete x)) (number_at w32 ▷ (bytes_at 32 ▷ number_at w64))

unfoldable pub item_at : List ℕ → Result (KeptItem × List ℕ) ℕ
item_at = made (λ x. record { fp = record { 0 = x.0 }; place = x.1 }) (bytes_at 32 ▷ place_at)

-- the number of items, and so many of them
unfoldable pub items_at : List ℕ → Result (List KeptItem × List ℕ) ℕ
items_at = made (λ x. x.1) (checked is_batch (number_at w16) ▷▷ times item_at)

unfoldable pub kept_at : List ℕ → Result (Body × List ℕ) ℕ
kept_at = made Kept items_at

abbrev pub make_spent : ℕ × (ℕ × (ℕ × ℕ)) → SpentBody
make_spent x = record { user = record { 0 = x.0 }; owners = x.1.0; shares = x.1.1.0; recipes = x.1.1.1 }

unfoldable pub spent_at : List ℕ → Result (Body × List ℕ) ℕ
spent_at = made (λ x. Spent (make_spent x)) (number_at w32 ▷ (number_at w32 ▷ (number_at w64 ▷ number_at w64)))

-- by the kind; an unknown one is wrong at its place
unfoldable pub fields_at : ℕ → List ℕ → Result (Body × List ℕ) ℕ
fields_at kind fields =
    if kind == 3 then delete_at fields
    else if kind == 4 then kept_at fields
    else if kind == 5 then spent_at fields
    else Err (length (kind ∷ fields))

-- a Delete, a Kept or a Spent, and what follows it
unfoldable pub front_at : List ℕ → Result (Body × List ℕ) ℕ
front_at [] = Err 0
front_at (kind ∷ fields) = fields_at kind fields

-- ---- all the bytes

-- the answer for so many bytes, counted from the front
abbrev pub judged : ℕ → Result (Body × List ℕ) ℕ → Result Body BodyErr
judged len (Ok (b, [])) = Ok b
judged len (Ok (b, x ∷ rest)) = Err (errors.Extra (len - length (x ∷ rest)))
judged len (Err zero) = Err errors.Short
judged len (Err (suc left)) = Err (errors.Field (len - suc left))

-- the bytes begin with the kind of a Delete, a Kept or a Spent
abbrev pub is_later : List ℕ → Bool
is_later [] = false
is_later (kind ∷ fields) = nat_le 3 kind && nat_le kind 5

-- the answer for a Put or a Commit
abbrev pub lifted_answer : Result first.FirstBody BodyErr → Result Body BodyErr
lifted_answer (Ok b) = Ok (lifted b)
lifted_answer (Err e) = Err e

-- The body that the bytes are, or the first thing that fails. Bytes that begin with another kind are read as a Put or a Commit.
unfoldable pub body_at : List ℕ → Result Body BodyErr
body_at bytes = if is_later bytes then judged (length bytes) (front_at bytes) else lifted_answer (first_reading.body_at bytes)

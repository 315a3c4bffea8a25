-- The fields of messages that stand in no list, and the places of faults.
use Rattle.std.specs.Prelude.{ℕ, ◌-◌, List, [], ◌∷◌, length, Option, Some, None, Result, Ok, Err, ◌==◌, if◌then◌else◌}
use Rattle.message_fields.specs.CdBase.ids.Tag.{Tag}
use Rattle.message_fields.specs.CdBase.ids.Version.{Version}
use Rattle.message_fields.specs.Grammar.Readers.{◌>>=◌}
use Rattle.message_fields.specs.Parts.{made}
use Rattle.message_fields.specs.Keys.{key_bytes, key_at}

-- a key or none, behind a flag
abbrev pub after_bytes : Option (Tag × Version) → List ℕ
after_bytes None = 0 ∷ []
after_bytes (Some key) = 1 ∷ key_bytes key

abbrev pub key_behind : ℕ → List ℕ → Result (Option (Tag × Version) × List ℕ) ℕ
key_behind flag bytes =
    if flag == 0 then Ok (None, bytes)
    else if flag == 1 then made Some key_at bytes
    else Err (length (flag ∷ bytes))

unfoldable pub after_at : List ℕ → Result (Option (Tag × Version) × List ℕ) ℕ
after_at [] = Err 0
after_at (flag ∷ bytes) = key_behind flag bytes

-- a value with all bytes that are left, of which there is one at least
abbrev pub some_left : {A : Type 0} → (List ℕ → A) → List ℕ → Result A ℕ
some_left make [] = Err 0
some_left make (b ∷ bytes) = Ok (make (b ∷ bytes))

-- a value and then all bytes that are left
abbrev pub with_rest : {A B : Type 0} → (A → List ℕ → B) → (List ℕ → Result (A × List ℕ) ℕ) → List ℕ → Result B ℕ
with_rest make f bytes = f bytes >>= λ x. some_left (make x.0) x.1

-- a fault's place, counted from the front
abbrev pub placed : {A : Type 0} → List ℕ → Result A ℕ → Result A ℕ
placed bytes (Ok value) = Ok value
placed bytes (Err left) = Err (length bytes - left)

-- What a function that reads returns.
use Rattle.std.specs.Prelude.{◌≡◌, ℕ, Result, Ok, Err}
use Rattle.message_fields.specs.declared.left.Left.{Left}

-- What a function returned, seen by view, is what reading gives.
abbrev pub IsReadingSeenBy : {X Y : Type 0} → (X → Y) → Result X Left → Result Y ℕ → Type 0
IsReadingSeenBy view (Ok x) read = read ≡ Ok (view x)
IsReadingSeenBy view (Err left) read = read ≡ Err left.0

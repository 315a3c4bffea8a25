-- A journal that isn't begun, and one that has just been.
use Rattle.std.specs.Prelude.{◌≡◌, ℕ, false, List, [], None}
use Rattle.journal_start.specs.declared.start.Header.{Header}
use Rattle.journal_halves.specs.Halves.{is_half_begun}
use Rattle.journal_halves.specs.Journals.{Where}

-- no half is begun
pub record IsUnbegun (journal : List ℕ) : Type 0 where
  pub first : is_half_begun 0 journal ≡ false
  pub second : is_half_begun 1 journal ≡ false

-- a chain that begins with no command
abbrev pub new_of : Header → Where
new_of header = record { half = 0; start = record { header = header; checkpoint = None }; bodies = [] }

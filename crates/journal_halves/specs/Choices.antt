-- Which of two starts is the later one.
use Rattle.std.specs.Prelude.{◌≡◌, ◌⊎◌, ℕ, ◌+◌, ◌%◌, List, Option, Some, None, Result, Ok}
use Rattle.journal_start.specs.declared.start.Start.{Start}
use Rattle.journal_start.specs.Spelling.{epoch_of}
use Rattle.journal_halves.specs.declared.found.Found.{Found}
use Rattle.journal_halves.specs.declared.found.FindErr.{FindErr}
use Rattle.journal_halves.specs.Findings.{LookIs, FindIs}
use Rattle.journal_halves.specs.declared.choice.Choice.{Choice}
use Rattle.journal_halves.specs.declared.choice.Choice.TheVariants.{Neither, Current, Equal}

-- its epoch is the one behind that of the other half, if that is begun
abbrev pub IsLaterStart : Start → Option Start → Type 0
IsLaterStart start None = Unit {0}
IsLaterStart start (Some before) = epoch_of start.checkpoint ≡ (epoch_of before.checkpoint + 1) % 3

-- the start of the one half or the other
abbrev pub IsStartOfEither : Option Start → Option Start → Found → Type 0
IsStartOfEither first second found =
    ((found.half ≡ 0) × (first ≡ Some found.start) × IsLaterStart found.start second)
    ⊎ ((found.half ≡ 1) × (second ≡ Some found.start) × IsLaterStart found.start first)

-- two starts of which none is the later one
pub record AreAlike (first second : Option Start) (start : Start) : Type 0 where
  pub one : Start
  pub first_is : first ≡ Some one
  pub second_is : second ≡ Some start
  pub not_first : epoch_of one.checkpoint ≡ (epoch_of start.checkpoint + 1) % 3 → ⊥
  pub not_second : epoch_of start.checkpoint ≡ (epoch_of one.checkpoint + 1) % 3 → ⊥

abbrev pub IsChosen : Option Start → Option Start → Choice → Type 0
IsChosen first second Neither = (first ≡ None) × (second ≡ None)
IsChosen first second (Current found) = IsStartOfEither first second found
IsChosen first second (Equal start) = AreAlike first second start

-- what was chosen of what the two halves begin with is what is found
abbrev pub AnswerIs : List ℕ → Option Start → Option Start → Choice → Result Found FindErr → Type 0
AnswerIs journal first second choice result = LookIs journal 0 (Ok first) → LookIs journal 1 (Ok second) → IsChosen first second choice
    → FindIs journal result

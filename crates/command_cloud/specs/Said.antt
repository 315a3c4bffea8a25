-- What is written of a cloud that isn't opened, and the status that is due with it.
use Rattle.std.specs.Prelude.{◌≡◌, ℕ, List}
use Rattle.backup_command.specs.Writing.{IsSilent, Output, HasWrittenOrCause}
use Rattle.backup_command.specs.CdBase.ids.CloudNo.{CloudNo}
use Rattle.cloud_opening.specs.CommitJournal.errors.OpenErr.{OpenErr}
use Rattle.cloud_opening.specs.CommitJournal.errors.OpenErr.TheVariants as errors
use Rattle.backup_command.specs.Transcript.ending.Ending.TheVariants as endings
use Rattle.backup_command.specs.Transcript.Endings.{ending_text}
use Rattle.command_cloud.specs.declared.opening.Unopened.{Unopened}
use Rattle.command_cloud.specs.declared.opening.Unopened.TheVariants as unopened

abbrev pub opening_status : OpenErr → ℕ
opening_status errors.Fault = 5
opening_status (errors.NotBegun len) = 7
opening_status (errors.Damaged at byte) = 7
opening_status (errors.OtherStore found asked at) = 7

abbrev pub opening_text : CloudNo → OpenErr → List ℕ
opening_text cloud errors.Fault = ending_text (endings.Shelf cloud)
opening_text cloud (errors.NotBegun len) = ending_text (endings.NotBegun cloud len)
opening_text cloud (errors.Damaged at byte) = ending_text (endings.Damaged cloud at byte)
opening_text cloud (errors.OtherStore found asked at) =
    ending_text (endings.Other cloud found.format found.shape.n found.shape.k found.cloud)

-- what is said of a cloud that isn't opened
abbrev pub SaysUnopened : CloudNo → Unopened → Output → ℕ → Type 0
SaysUnopened cloud unopened.NoMemory out status = (status ≡ 6) × IsSilent out
SaysUnopened cloud (unopened.Refused error) out status = HasWrittenOrCause (opening_text cloud error) (opening_status error) out status

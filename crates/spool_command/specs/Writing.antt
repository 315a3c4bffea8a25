-- What is written of a job that is kept, with the status.
use Rattle.std.specs.Prelude.{◌≡◌, ℕ, Bool, List, [], ◌++◌, Option, Some, None, Result, Ok, Err, if◌then◌else◌}
use Rattle.upload_spool.specs.CdBase.ids.CloudNo.{CloudNo}
use Rattle.backup_command.specs.Transcript.ending.Ending.TheVariants as endings
use Rattle.backup_command.specs.Transcript.line.Line.TheVariants as lines
use Rattle.backup_command.specs.Transcript.refusal.Refusal.TheVariants as refusals
use Rattle.backup_command.specs.Transcript.Endings.{ending_text}
use Rattle.backup_command.specs.Transcript.Transcript.{line_text}
use Rattle.backup_command.specs.PortsLink.Refusals.{refused_text}
use Rattle.upload_spool.specs.declared.error.SpoolErr.{SpoolErr}
use Rattle.upload_spool.specs.declared.error.SpoolErr.TheVariants as spool_errors
use Rattle.backup_command.specs.Writing.{Output, IsSilent, HasWrittenOrCause}
use Rattle.spool_command.specs.declared.interruption.Interruption.TheVariants.{Ports, Shelf, Memory}
use Rattle.spool_command.specs.declared.writing.Unspooled.{Unspooled}
use Rattle.spool_command.specs.declared.writing.Unspooled.TheVariants.{Undialled, Unheard, Refused, Unkept, Interrupted}

-- the client's own folder is cloud 0 of its shelf
abbrev pub folder : CloudNo
folder = record { 0 = 0 }

-- the line with which a spool was refused
abbrev pub refusal_text : SpoolErr → List ℕ
refusal_text (spool_errors.NotEmpty area len) = ending_text (endings.Store folder area len)
refusal_text spool_errors.Fault = ending_text (endings.Shelf folder)
refusal_text (spool_errors.Damaged at byte) = ending_text (endings.Damaged folder at byte)
refusal_text (spool_errors.OtherStore found asked) =
    ending_text (endings.Other folder found.format found.shape.n found.shape.k found.cloud)
refusal_text (spool_errors.Rotten named found) = line_text (lines.Refused (refusals.Rotten folder named found))
refusal_text spool_errors.NoMemory = []

-- and the status: 7 where the folder has something else, 5 where the shelf failed, 8 where the file is another
abbrev pub refusal_status : SpoolErr → ℕ
refusal_status (spool_errors.NotEmpty area len) = 7
refusal_status spool_errors.Fault = 5
refusal_status (spool_errors.Damaged at byte) = 7
refusal_status (spool_errors.OtherStore found asked) = 7
refusal_status (spool_errors.Rotten named found) = 8
refusal_status spool_errors.NoMemory = 6

-- nothing is written, with this status
pub record IsQuiet (due : ℕ) (out : Output) (status : ℕ) : Type 0 where
  pub status_is : status ≡ due
  pub silent : IsSilent out

-- What is written of a job that came to this, with the text of its lines; None is no job.
abbrev pub IsWritten : Result (Option Bool) Unspooled → List ℕ → Output → ℕ → Type 0
IsWritten (Ok (Some stored)) text out status = HasWrittenOrCause text (if stored then 0 else 8) out status
IsWritten (Ok None) text out status = HasWrittenOrCause (ending_text endings.NoSpool) 0 out status
IsWritten (Err Undialled) text out status = IsQuiet 9 out status
IsWritten (Err Unheard) text out status = IsQuiet 9 out status
IsWritten (Err (Refused why)) text out status = HasWrittenOrCause (refused_text why) 8 out status
IsWritten (Err (Unkept error)) text out status = HasWrittenOrCause (refusal_text error)
    (refusal_status error) out status
IsWritten (Err (Interrupted Ports)) text out status = HasWrittenOrCause text 9 out status
IsWritten (Err (Interrupted Shelf)) text out status = HasWrittenOrCause
    (text ++ ending_text (endings.Shelf folder)) 5 out status
IsWritten (Err (Interrupted Memory)) text out status = IsQuiet 6 out status

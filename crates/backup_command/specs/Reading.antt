-- A file that is read from a source.
use Rattle.std.specs.Prelude.{◌≡◌, ℕ, ◌≤◌, List, length, Option, Some, Result, Ok, Err, slice_get}
use Rattle.transcript.specs.CdEdges.Causes.{Rose}
use Rattle.lane_steps.specs.Recipe.Spelling.{file_limit}
use Rattle.backup_command.specs.declared.reading.FileReadErr.{FileReadErr}
use Rattle.backup_command.specs.declared.reading.FileReadErr.TheVariants as errors

-- the source: the bytes that it has, where it tells them, and how often it had failed and has failed
pub record Input : Type 0 where
  pub left : Option (List ℕ)
  pub faults_before : ℕ
  pub faults_after : ℕ

abbrev pub input_of : Option (List ℕ) → ℕ → ℕ → Input
input_of left before after = record { left = left; faults_before = before; faults_after = after }

-- The file is all that the source has, and not above the limit.
pub record IsFileRead (input : Input) (file : List ℕ) : Type 0 where
  pub few : length file ≤ file_limit
  pub all : (left : List ℕ) → input.left ≡ Some left → file ≡ left
  pub still : input.faults_after ≡ input.faults_before

-- The source has more than a file may have, and this is the first byte too many.
pub record IsFileTooLong (input : Input) (byte : ℕ) : Type 0 where
  pub byte_is : (left : List ℕ) → input.left ≡ Some left → slice_get left file_limit ≡ Some byte
  pub still : input.faults_after ≡ input.faults_before

-- What reading the source to its end came to.
abbrev pub ReadsBackupFile : Input → Result (List ℕ) FileReadErr → Type 0
ReadsBackupFile input (Ok file) = IsFileRead input file
ReadsBackupFile input (Err (errors.TooLong byte)) = IsFileTooLong input byte
ReadsBackupFile input (Err errors.Failed) = Rose input.faults_before input.faults_after
ReadsBackupFile input (Err errors.NoMemory) = input.faults_after ≡ input.faults_before

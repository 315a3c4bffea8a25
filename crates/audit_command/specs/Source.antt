-- A certificate that is read from a source, and the places in it.
use Rattle.std.specs.Prelude.{◌≡◌, ℕ, zero, suc, ◌+◌, ◌-◌, ◌==◌, ◌≤◌, List, [], ◌∷◌, length, take, drop, Option, Some, Result, Ok, Err, slice_get, if◌then◌else◌}
use Rattle.command_cloud.specs.CdEdges.Causes.{Rose}
use Rattle.command_cloud.specs.Transcript.Reading.{line_len}
use Rattle.command_cloud.specs.BackupCommand.Reading.{Input}
use Rattle.audit_command.specs.declared.reading.CertificateReadErr.{CertificateReadErr}
use Rattle.audit_command.specs.declared.reading.CertificateReadErr.TheVariants as errors

-- how many bytes a certificate may have
abbrev pub certificate_limit : ℕ
certificate_limit = 134217728

-- ---- places in a text

-- the line, from 1, and the place in it, from 0, that come behind these bytes, where they begin at such
abbrev pub mark_behind : ℕ × ℕ → List ℕ → ℕ × ℕ
mark_behind mark [] = mark
mark_behind mark (byte ∷ bytes) = mark_behind (if byte == 10 then (mark.0 + 1, 0) else (mark.0, mark.1 + 1)) bytes

-- what stands behind so many lines
abbrev pub behind_lines : ℕ → List ℕ → List ℕ
behind_lines zero text = text
behind_lines (suc n) text = behind_lines n (drop (line_len text + 1) text)

-- the line that text begins with, without its newline
abbrev pub first_line : List ℕ → List ℕ
first_line text = take (line_len text) text

-- the byte at a place of a line, both counted so; none at the line's end
abbrev pub byte_in : List ℕ → ℕ → ℕ → Option ℕ
byte_in text line at = slice_get (first_line (behind_lines (line - 1) text)) at

-- ---- the source

-- The text is all that the source has, and not above the limit.
pub record IsCertificateRead (input : Input) (text : List ℕ) : Type 0 where
  pub few : length text ≤ certificate_limit
  pub all : (left : List ℕ) → input.left ≡ Some left → text ≡ left
  pub still : input.faults_after ≡ input.faults_before

-- The source has more than a certificate may have: the first byte too many, and its line and place.
pub record IsCertificateTooLong (input : Input) (line at byte : ℕ) : Type 0 where
  pub byte_is : (left : List ℕ) → input.left ≡ Some left → slice_get left certificate_limit ≡ Some byte
  pub mark_is : (left : List ℕ) → input.left ≡ Some left → mark_behind (1, 0) (take certificate_limit left) ≡ (line, at)
  pub still : input.faults_after ≡ input.faults_before

-- What reading the source to its end came to.
abbrev pub ReadsCertificate : Input → Result (List ℕ) CertificateReadErr → Type 0
ReadsCertificate input (Ok text) = IsCertificateRead input text
ReadsCertificate input (Err (errors.TooLong line at byte)) = IsCertificateTooLong input line at byte
ReadsCertificate input (Err errors.Failed) = Rose input.faults_before input.faults_after
ReadsCertificate input (Err errors.NoMemory) = input.faults_after ≡ input.faults_before

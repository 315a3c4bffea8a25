-- What is written, and the status that is due with it.
use Rattle.std.specs.Prelude.{ℕ, List, [], ◌∷◌, Result, Ok, Err, codes, decimal}
use Rattle.audit.specs.declared.errors.AuditErr.{AuditErr}
use Rattle.audit.specs.declared.errors.AuditErr.TheVariants as audits
use Rattle.audit.specs.AuditBase.errors.CheckErr.{CheckErr}
use Rattle.audit.specs.AuditBase.errors.CheckErr.TheVariants as checks
use Rattle.grammar.specs.CdBase.ids.CloudNo.{CloudNo}
use Rattle.grammar.specs.CdBase.ids.Fp.{Fp}
use Rattle.command_cloud.specs.Transcript.ending.Ending.TheVariants as endings
use Rattle.command_cloud.specs.Transcript.line.Line.TheVariants as lines
use Rattle.command_cloud.specs.Transcript.refusal.Refusal.TheVariants as refusals
use Rattle.command_cloud.specs.Transcript.Endings.{ending_text}
use Rattle.command_cloud.specs.Transcript.Transcript.{ended, line_text}
use Rattle.audit_command.specs.Source.{byte_in}

-- ---- lines

-- `refused rotten CLOUD NAMED FOUND`
abbrev pub rotten_text : CloudNo → Fp → Fp → List ℕ
rotten_text cloud named found = line_text (lines.Refused (refusals.Rotten cloud named found))

-- `refused othercloud`
abbrev pub other_text : List ℕ
other_text = ended (codes "refused othercloud" ∷ [])

-- `refused differs LINE`
abbrev pub differs_text : ℕ → List ℕ
differs_text line = ended (codes "refused differs" ∷ decimal line ∷ [])

-- `whole CLOUD COUNT`
abbrev pub whole_text : CloudNo → ℕ → List ℕ
whole_text cloud count = ended (codes "whole" ∷ decimal cloud.0 ∷ decimal count ∷ [])

-- ---- an audit

abbrev pub audit_status : Result ℕ AuditErr → ℕ
audit_status (Ok count) = 0
audit_status (Err audits.Fault) = 5
audit_status (Err audits.NoMemory) = 6
audit_status (Err (audits.Rotten named found)) = 8

-- where it answers Ok the certificate's text
abbrev pub audit_text : CloudNo → List ℕ → Result ℕ AuditErr → List ℕ
audit_text cloud certificate (Ok count) = certificate
audit_text cloud certificate (Err audits.Fault) = ending_text (endings.Shelf cloud)
audit_text cloud certificate (Err audits.NoMemory) = []
audit_text cloud certificate (Err (audits.Rotten named found)) = rotten_text cloud named found

-- ---- a check

abbrev pub check_status : Result ℕ CheckErr → ℕ
check_status (Ok count) = 0
check_status (Err (checks.Malformed line at)) = 2
check_status (Err checks.Fault) = 5
check_status (Err checks.NoMemory) = 6
check_status (Err checks.OtherCloud) = 8
check_status (Err (checks.Differs line)) = 8
check_status (Err (checks.Rotten named found)) = 8

-- of the text that was checked
abbrev pub check_text : CloudNo → List ℕ → Result ℕ CheckErr → List ℕ
check_text cloud text (Ok count) = whole_text cloud count
check_text cloud text (Err (checks.Malformed line at)) = ending_text (endings.Script line at (byte_in text line at))
check_text cloud text (Err checks.Fault) = ending_text (endings.Shelf cloud)
check_text cloud text (Err checks.NoMemory) = []
check_text cloud text (Err checks.OtherCloud) = other_text
check_text cloud text (Err (checks.Differs line)) = differs_text line
check_text cloud text (Err (checks.Rotten named found)) = rotten_text cloud named found

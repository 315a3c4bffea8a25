-- A text that is due whatever another one was.
use Rattle.std.proofs.Common.{◌≡◌, ℕ, List, Err, refl}
use Rattle.audit.specs.declared.errors.AuditErr.{AuditErr}
use Rattle.audit.specs.declared.errors.AuditErr.TheVariants as audits
use Rattle.grammar.specs.CdBase.ids.CloudNo.{CloudNo}
use Rattle.audit_command.specs.Said.{audit_text}

-- what is due behind no certificate is due whatever the text was
pub refusal_is : (cloud : CloudNo) (one two : List ℕ) (error : AuditErr)
    → audit_text cloud one (Err error) ≡ audit_text cloud two (Err error)
refusal_is cloud one two audits.Fault = refl
refusal_is cloud one two audits.NoMemory = refl
refusal_is cloud one two (audits.Rotten named found) = refl

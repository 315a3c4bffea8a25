-- What a check answers for a text, by the server's own certificate.
use Rattle.std.specs.Prelude.{◌≡◌, ◌≢◌, ℕ, List, slice_get, Result, Ok, Err}
use Rattle.certificate.specs.declared.line.CertificateLine.{CertificateLine}
use Rattle.certificate.specs.Lines.{Certificate, certificate_lines, certificate_text}
use Rattle.certificate.specs.Reading.{certificate_at}
use Rattle.audit_base.specs.declared.errors.CheckErr.{CheckErr}
use Rattle.audit_base.specs.declared.errors.CheckErr.TheVariants.{Malformed, OtherCloud, Differs, Rotten, Fault, NoMemory}
use Rattle.audit_base.specs.Own.{DifferAt}

-- Its lines are read; the first is another's.
pub record IsOthers (own : Certificate) (bytes : List ℕ) : Type 0 where
  pub said : List CertificateLine
  pub read : certificate_at bytes ≡ Ok said
  pub other : slice_get said 0 ≢ slice_get (certificate_lines own) 0

-- Its lines are read, the first is own, and at this one the two first differ.
pub record Differ (own : Certificate) (bytes : List ℕ) (line : ℕ) : Type 0 where
  pub said : List CertificateLine
  pub read : certificate_at bytes ≡ Ok said
  pub first : slice_get said 0 ≡ slice_get (certificate_lines own) 0
  pub differ : DifferAt said (certificate_lines own) line

-- The order of refusals: the grammar, the cloud, the lines; a blob is refused where the text is the own one.
abbrev pub JudgedIs : Certificate → List ℕ → Result ℕ CheckErr → Type 0
JudgedIs own bytes (Ok count) = (bytes ≡ certificate_text own) × (count ≡ own.count)
JudgedIs own bytes (Err (Malformed line at)) = certificate_at bytes ≡ Err (record { line = line; at = at })
JudgedIs own bytes (Err OtherCloud) = IsOthers own bytes
JudgedIs own bytes (Err (Differs line)) = Differ own bytes line
JudgedIs own bytes (Err (Rotten named found)) = bytes ≡ certificate_text own
JudgedIs own bytes (Err Fault) = bytes ≡ certificate_text own
JudgedIs own bytes (Err NoMemory) = Unit {0}

-- What an audit and a check answer.
use Rattle.std.specs.Prelude.{◌≡◌, ℕ, ◌++◌, List, Result, Ok, Err}
use Rattle.share_server.specs.CdBase.ids.Fp.{Fp}
use Rattle.share_server.specs.CdEdges.Disk.{Image}
use Rattle.own_certificate.specs.Certificate.Lines.{Certificate, certificate_text}
use Rattle.share_server.specs.declared.server.Server.{Server}
use Rattle.blob_audit.specs.AuditBase.errors.CheckErr.{CheckErr}
use Rattle.blob_audit.specs.AuditBase.errors.CheckErr.TheVariants as checks
use Rattle.blob_audit.specs.AuditBase.Own.{own}
use Rattle.blob_audit.specs.AuditBase.Whole.{Tables, tables_of}
use Rattle.blob_audit.specs.Reading.{AreStored, IsUnlike}
use Rattle.audit.specs.declared.errors.AuditErr.{AuditErr}
use Rattle.audit.specs.declared.errors.AuditErr.TheVariants as audits

-- the certificate that the server would write now
abbrev pub own_of : Server → Certificate
own_of server = own server.store.header.shape server.store.header.cloud (tables_of server.store.memory)

-- the maps that it remembers
abbrev pub remembered : Server → Tables
remembered server = tables_of server.store.memory

-- ---- an audit

-- what it leaves in its buffer
abbrev pub AppendsCertificate : Certificate → Result ℕ AuditErr → List ℕ → List ℕ → Type 0
AppendsCertificate own (Ok count) before now = (count ≡ own.count) × (now ≡ before ++ certificate_text own)
AppendsCertificate own (Err e) before now = now ≡ before

-- by the areas
abbrev pub AuditIs : Image → Tables → Result ℕ AuditErr → Type 0
AuditIs image t (Ok count) = AreStored image t
AuditIs image t (Err audits.Fault) = Unit {0}
AuditIs image t (Err (audits.Rotten named found)) = IsUnlike image t named found
AuditIs image t (Err audits.NoMemory) = Unit {0}

-- nothing but want of memory or a device that failed was in the way
abbrev pub AuditPasses : Result ℕ AuditErr → Type 0
AuditPasses (Ok count) = Unit {0}
AuditPasses (Err audits.Fault) = Unit {0}
AuditPasses (Err (audits.Rotten named found)) = ⊥
AuditPasses (Err audits.NoMemory) = Unit {0}

-- one fact where a device failed, and another for every other answer
abbrev pub OnAuditFault : Result ℕ AuditErr → Type 0 → Type 0 → Type 0
OnAuditFault (Ok count) failed other = other
OnAuditFault (Err audits.Fault) failed other = failed
OnAuditFault (Err (audits.Rotten named found)) failed other = other
OnAuditFault (Err audits.NoMemory) failed other = other

-- ---- a check

abbrev pub IfCheckRotten : Result ℕ CheckErr → (Fp → Fp → Type 0) → Type 0
IfCheckRotten (Ok count) P = Unit {0}
IfCheckRotten (Err (checks.Malformed line at)) P = Unit {0}
IfCheckRotten (Err checks.OtherCloud) P = Unit {0}
IfCheckRotten (Err (checks.Differs line)) P = Unit {0}
IfCheckRotten (Err (checks.Rotten named found)) P = P named found
IfCheckRotten (Err checks.Fault) P = Unit {0}
IfCheckRotten (Err checks.NoMemory) P = Unit {0}

-- a fact where the text was refused before anything was read
abbrev pub IfUnread : Result ℕ CheckErr → Type 0 → Type 0
IfUnread (Ok count) P = Unit {0}
IfUnread (Err (checks.Malformed line at)) P = P
IfUnread (Err checks.OtherCloud) P = P
IfUnread (Err (checks.Differs line)) P = P
IfUnread (Err (checks.Rotten named found)) P = Unit {0}
IfUnread (Err checks.Fault) P = Unit {0}
IfUnread (Err checks.NoMemory) P = Unit {0}

-- nothing but want of memory or a device that failed was in the way
abbrev pub CheckPasses : Result ℕ CheckErr → Type 0
CheckPasses (Ok count) = Unit {0}
CheckPasses (Err (checks.Malformed line at)) = ⊥
CheckPasses (Err checks.OtherCloud) = ⊥
CheckPasses (Err (checks.Differs line)) = ⊥
CheckPasses (Err (checks.Rotten named found)) = ⊥
CheckPasses (Err checks.Fault) = Unit {0}
CheckPasses (Err checks.NoMemory) = Unit {0}

abbrev pub OnCheckFault : Result ℕ CheckErr → Type 0 → Type 0 → Type 0
OnCheckFault (Ok count) failed other = other
OnCheckFault (Err (checks.Malformed line at)) failed other = other
OnCheckFault (Err checks.OtherCloud) failed other = other
OnCheckFault (Err (checks.Differs line)) failed other = other
OnCheckFault (Err (checks.Rotten named found)) failed other = other
OnCheckFault (Err checks.Fault) failed other = failed
OnCheckFault (Err checks.NoMemory) failed other = other

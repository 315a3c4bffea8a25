-- What an opened cloud vouches for, by the memory.
use Rattle.audit.specs.AuditBase.Own.{own}
use Rattle.audit.specs.AuditBase.Whole.{Tables}
use Rattle.audit.specs.Certificate.Lines.{Certificate}
use Rattle.command_cloud.specs.CloudMemory.Memory.{Memory}
use Rattle.command_cloud.specs.Opened.{CloudCall}

-- where each share and each recipe lies, and who owns what, by the memory
abbrev pub tables_in : Memory → Tables
tables_in memory = record { places = memory.places; owners = memory.owners; files = memory.files }

-- the certificate that the cloud writes by the memory
abbrev pub certificate_in : CloudCall → Memory → Certificate
certificate_in call memory = own call.shape call.cloud (tables_in memory)

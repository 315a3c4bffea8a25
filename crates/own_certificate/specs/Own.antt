-- What is judged of a text by memory alone.
use Rattle.std.specs.Prelude.{◌≡◌, ℕ, List, ◌++◌, Result, Ok, Err}
use Rattle.audit_base.specs.CdBase.ids.CloudNo.{CloudNo}
use Rattle.audit_base.specs.CdBase.shape.Shape.{Shape}
use Rattle.audit_base.specs.Certificate.Lines.{Certificate, certificate_text}
use Rattle.audit_base.specs.CloudMemory.cloud.CloudMemory.{CloudMemory}
use Rattle.audit_base.specs.Own.{own}
use Rattle.audit_base.specs.Whole.{tables_of}

-- the certificate of the cloud that has this memory
abbrev pub own_by : Shape → CloudNo → CloudMemory → Certificate
own_by shape cloud memory = own shape cloud (tables_of memory)

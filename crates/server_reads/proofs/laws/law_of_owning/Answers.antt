use Rattle.server_reads.proofs.Unowned.{unowned_is, flags_are}
use Rattle.server_reads.proofs.laws.law_of_owning.Goals as goal

pub returns : goal.returns
returns c = record { first = unowned_is; flags = flags_are }

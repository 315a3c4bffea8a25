use Rattle.local_link.proofs.Standing.{header_is}
use Rattle.local_link.proofs.link.law_of_headers.Goals as goal

pub returns : goal.returns
returns c = header_is

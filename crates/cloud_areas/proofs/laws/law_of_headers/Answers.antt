use Rattle.cloud_areas.proofs.Headers.{one_header}
use Rattle.cloud_areas.proofs.laws.law_of_headers.Goals as goal

pub returns : goal.returns
returns c = one_header

use Rattle.cloud_store.proofs.Keeping.{areas_serve}
use Rattle.cloud_store.proofs.laws.law_of_areas.Goals as goal

pub returns : goal.returns
returns c = areas_serve

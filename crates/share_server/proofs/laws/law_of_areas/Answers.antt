use Rattle.share_server.proofs.Areas.{areas_keep}
use Rattle.share_server.proofs.laws.law_of_areas.Goals as goal

pub returns : goal.returns
returns c server old new p told now serving = areas_keep server.store old new p told now serving

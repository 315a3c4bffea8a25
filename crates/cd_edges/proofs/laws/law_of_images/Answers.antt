use Rattle.cd_edges.proofs.Since.{image_since_now, image_since_earlier}
use Rattle.cd_edges.proofs.laws.law_of_images.Goals as goal

pub returns-clause-now : goal.returns-clause-now
returns-clause-now c = image_since_now

pub returns-clause-earlier : goal.returns-clause-earlier
returns-clause-earlier c = image_since_earlier

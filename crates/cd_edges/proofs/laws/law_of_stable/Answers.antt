use Rattle.std.proofs.Common.{List, ℕ, sym, subst}
use Rattle.cd_edges.specs.Disk.{MayLeave}
use Rattle.cd_edges.specs.Shelf.{stable}
use Rattle.cd_edges.proofs.Since.{image_of_stable, image_of_wrote}
use Rattle.cd_edges.proofs.Torn.{only}
use Rattle.cd_edges.proofs.laws.law_of_stable.Goals as goal

pub returns-clause-one : goal.returns-clause-one
returns-clause-one c = λ bytes image. (only bytes image, λ is. subst (λ (l : List ℕ). MayLeave (stable bytes) l) (sym is) (image_of_stable bytes))

pub returns-clause-more : goal.returns-clause-more
returns-clause-more c = image_of_wrote

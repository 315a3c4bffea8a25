use Rattle.std.proofs.Common.{rules}
use Rattle.caont_rs.specs.Package.{tag}
use Rattle.caont_rs.proofs.names.tag_of.Goals as goal

pub returns : goal.returns
unfolding tag
returns c = search rules

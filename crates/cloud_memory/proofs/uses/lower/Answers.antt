use Rattle.std.proofs.Common.{◌∙◌}
use Rattle.cloud_memory.proofs.Walking.{released_is}
use Rattle.cloud_memory.proofs.uses.lower.Goals as goal

pub returns-clause-owners : goal.returns-clause-owners
returns-clause-owners c = c.release.ensures.owners ∙ released_is c.args.shares.now.owners c.args.user c.args.fp.now

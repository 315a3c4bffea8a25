use Rattle.std.proofs.Common.{◌∙◌, sym, arith}
use Rattle.cloud_memory.proofs.Walking.{raised_whole}
use Rattle.cloud_memory.proofs.uses.raise.Goals as goal

pub returns-else-uses-lt4294967295-clause-owners : goal.returns-else-uses-lt4294967295-clause-owners
returns-else-uses-lt4294967295-clause-owners c =
    raised_whole c.args.shares.now.owners c.args.user c.args.fp.now c.in-Some.uses (sym c.uses.ensures ∙ c.in-Some.is) (omega arith) (omega arith)

use Rattle.rabin_chunker.proofs.RuleLaws.{secret_at_most, secret_at_least}
use Rattle.rabin_chunker.proofs.laws.secrets_are_bounded.Goals as goal

pub returns-clause-longest : goal.returns-clause-longest
returns-clause-longest c = secret_at_most c.args.file.now c.args.start c.args.end c.requires

pub returns-clause-shortest : goal.returns-clause-shortest
returns-clause-shortest c = secret_at_least c.args.file.now c.args.start c.args.end c.requires

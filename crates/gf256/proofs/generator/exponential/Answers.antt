use Rattle.gf256.proofs.Tables.{exponential_at}
use Rattle.gf256.proofs.generator.exponential.Goals as goal

pub returns : goal.returns
returns c = exponential_at c.args.e c.requires

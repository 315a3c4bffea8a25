use Rattle.rabin_chunker.proofs.TableChecks.{carry_at}
use Rattle.rabin_chunker.proofs.tables.carried.Goals as goal

pub returns : goal.returns
returns c = carry_at c.args.byte c.requires

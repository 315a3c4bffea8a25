use Rattle.rabin_chunker.proofs.TableChecks.{carry_two_at}
use Rattle.rabin_chunker.proofs.tables.carried_two.Goals as goal

pub returns : goal.returns
returns c = carry_two_at c.args.byte c.requires

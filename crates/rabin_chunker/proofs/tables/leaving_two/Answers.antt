use Rattle.std.proofs.Common.{arith}
use Rattle.rabin_chunker.proofs.TableChecks.{leaving_two_at}
use Rattle.rabin_chunker.proofs.tables.leaving_two.Goals as goal

pub returns : goal.returns
returns c = leaving_two_at c.args.byte (omega arith)

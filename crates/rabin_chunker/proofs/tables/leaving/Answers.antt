use Rattle.std.proofs.Common.{arith}
use Rattle.rabin_chunker.proofs.TableChecks.{leaving_at}
use Rattle.rabin_chunker.proofs.tables.leaving.Goals as goal

pub returns : goal.returns
returns c = leaving_at c.args.byte (omega arith)

use Rattle.std.proofs.Common.{refl}
use Rattle.session.proofs.Fronts.{header_wrong}
use Rattle.session.proofs.long.header_behind.Goals as goal

pub returns-else-is_empty-clause-reads : goal.returns-else-is_empty-clause-reads
returns-else-is_empty-clause-reads c = header_wrong c.args.front.now c.args.tail.now (c.if-is_empty.ensures.some refl)

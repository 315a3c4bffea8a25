use Rattle.blob_audit.proofs.Ordered.{has_sorted}
use Rattle.blob_audit.proofs.order.sort.Goals as goal

pub returns : goal.returns
returns c = λ slots all. has_sorted c.args.order.now c.sort_unstable.new.self slots c.sort_unstable.ensures.permutation all

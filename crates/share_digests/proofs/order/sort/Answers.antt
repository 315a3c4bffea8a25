use Rattle.std.proofs.Common.{◌<◌}
use Rattle.std.proofs.lemmas.List.Sorted.{All-permutation}
use Rattle.share_digests.proofs.Ordered.{has_sorted}
use Rattle.share_digests.proofs.order.sort.Goals as goal

pub returns-clause-all : goal.returns-clause-all
returns-clause-all c = λ places all. has_sorted c.args.order.now c.sort_unstable.new.self places c.sort_unstable.ensures.permutation all

pub returns-clause-below : goal.returns-clause-below
returns-clause-below c = λ places all.
    All-permutation (λ pair. pair.1 < places) c.args.order.now c.sort_unstable.new.self c.sort_unstable.ensures.permutation all

use Rattle.std.proofs.Common.{arith}
use Rattle.message_fields.proofs.ShareLaws.{shares_whole}
use Rattle.message_fields.proofs.shares.shares_of.Goals as goal

pub invariant_of-result : goal.invariant_of-result
invariant_of-result c = (shares_whole c.args.bytes.now c.in_ok-count.items.now c.in_ok-rest.rest.now c.split_at.result.0.now c.in_ok-count.count c.saturating_sub.result (λ i. omega (arith, c.type_inv.bytes i)) c.in_ok-count.ensures c.in_ok-rest.ensures (omega arith) c.split_at.ensures.front).0

pub returns : goal.returns
returns c = (shares_whole c.args.bytes.now c.in_ok-count.items.now c.in_ok-rest.rest.now c.split_at.result.0.now c.in_ok-count.count c.saturating_sub.result (λ i. omega (arith, c.type_inv.bytes i)) c.in_ok-count.ensures c.in_ok-rest.ensures (omega arith) c.split_at.ensures.front).1

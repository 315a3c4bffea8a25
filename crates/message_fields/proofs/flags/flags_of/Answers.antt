use Rattle.std.proofs.Common.{arith}
use Rattle.message_fields.proofs.ShareLaws.{flags_whole}
use Rattle.message_fields.proofs.flags.flags_of.Goals as goal

pub returns : goal.returns
returns c = flags_whole c.args.bytes.now c.in_ok-count.items.now c.in_ok-rest.rest.now c.split_at.result.0.now c.in_ok-count.count c.saturating_sub.result (λ i. omega (arith, c.type_inv.bytes i)) c.in_ok-count.ensures c.in_ok-rest.ensures (omega arith) c.split_at.ensures.front

use Rattle.std.proofs.Common.{◌-◌, arith}
use Rattle.message_fields.proofs.ShareLaws.{first_share, no_share, share_range, no_shares}
use Rattle.message_fields.proofs.shares.SharesView.split_first.Goals as goal

pub returns-then-self-eq0-clause-value : goal.returns-then-self-eq0-clause-value
returns-then-self-eq0-clause-value c = rw (← c.self.view_is) (no_shares c.self.inside.count c.self.inside.bytes.now c.if-self-eq0.true)

pub invariant_of-result : goal.invariant_of-result
invariant_of-result c = (first_share c.self.inside.count (c.self.inside.count - 1) c.self.inside.bytes.now c.in-Ok.share.now c.in-Ok.bytes.now (omega arith) c.self.invariant c.in-Ok.ensures).0

pub returns-in-Ok-clause-value : goal.returns-in-Ok-clause-value
returns-in-Ok-clause-value c = rw (← c.self.view_is) (first_share c.self.inside.count (c.self.inside.count - 1) c.self.inside.bytes.now c.in-Ok.share.now c.in-Ok.bytes.now (omega arith) c.self.invariant c.in-Ok.ensures).1

pub returns-in-Ok-clause-range : goal.returns-in-Ok-clause-range
returns-in-Ok-clause-range c = share_range c.self.inside.bytes.now c.in-Ok.share.now c.in-Ok.bytes.now c.in-Ok.ensures

pub returns-in-Err-clause-value : goal.returns-in-Err-clause-value
returns-in-Err-clause-value c = absurd (no_share c.self.inside.count (c.self.inside.count - 1) c.self.inside.bytes.now c.in-Err.field-0.0 (omega arith) c.self.invariant c.in-Err.ensures)

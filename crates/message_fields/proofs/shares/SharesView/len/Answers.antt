use Rattle.std.proofs.Common.{sym}
use Rattle.message_fields.proofs.ShareLaws.{length-shares}
use Rattle.message_fields.proofs.shares.SharesView.len.Goals as goal

pub returns : goal.returns
returns c = rw (← c.self.view_is) (sym (length-shares c.self.inside.count c.self.inside.bytes.now c.self.invariant))

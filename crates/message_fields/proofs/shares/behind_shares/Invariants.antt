use Rattle.std.proofs.Common.{◌≡◌, ◌-◌}
use Rattle.message_fields.specs.Parts.{times, behind}
use Rattle.message_fields.specs.Shares.{share_at}
use Rattle.message_fields.proofs.shares.behind_shares.Given as goal

abbrev pub invariant-loop-i : goal.invariant-loop-i
invariant-loop-i l = behind (times share_at (l.count - l._i) l.rest) ≡ behind (times share_at l.count l.bytes)

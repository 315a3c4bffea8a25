use Rattle.std.proofs.Common.{◌≡◌, ◌-◌}
use Rattle.message_fields.specs.Parts.{times, behind}
use Rattle.record_body.specs.FirstReading.{item_at}
use Rattle.record_body.proofs.first_fields.behind_items.Given as goal

abbrev pub invariant-loop-i : goal.invariant-loop-i
invariant-loop-i l = behind (times item_at (l.count - l._i) l.rest) ≡ behind (times item_at l.count l.bytes)

use Rattle.std.proofs.Common.{◌≡◌, ◌-◌, None}
use Rattle.message_fields.specs.Keys.{keys_above_at}
use Rattle.message_fields.proofs.KeyLaws.{with_front}
use Rattle.message_fields.proofs.keys.keys_of.Given as goal

abbrev pub invariant-loop-i : goal.invariant-loop-i
invariant-loop-i l = with_front l.entries (keys_above_at l.last (l.count - l.i) l.rest) ≡ keys_above_at None l.count l.bytes

use Rattle.std.proofs.Common.{◌≡◌, ◌-◌}
use Rattle.message_fields.specs.Parts.{times, byte_as, behind}
use Rattle.message_fields.specs.Flags.{flag_of}
use Rattle.message_fields.proofs.flags.behind_flags.Given as goal

abbrev pub invariant-loop-i : goal.invariant-loop-i
invariant-loop-i l = behind (times (byte_as flag_of) (l.count - l._i) l.rest) ≡ behind (times (byte_as flag_of) l.count l.bytes)

use Rattle.std.proofs.Common.{◌≡◌, ◌++◌, ◌+◌, ◌*◌, ◌≤◌, length, take}
use Rattle.std.specs.List.{flat_map}
use Rattle.message_fields.specs.Keys.{key_bytes}
use Rattle.messages.proofs.reply_writing.append_each_key.Given as goal

abbrev pub invariant-loop-key : goal.invariant-loop-key
invariant-loop-key l = record { all : l.out ≡ l.fn.out ++ flat_map key_bytes (take l.key-index l.keys); few : length l.out ≤ length l.fn.out + l.key-index * 40 }

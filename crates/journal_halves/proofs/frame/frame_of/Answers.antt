use Rattle.std.proofs.Common.{◌≡◌, ◌≤◌, ◌<◌, ◌+◌, ◌-◌, slice_index, length, rules, arith, length-take, length-drop, drop}
use Rattle.journal_halves.proofs.FrameRecord.{record_at}
use Rattle.journal_halves.proofs.frame.frame_of.Goals as goal

pub returns-else-rest-len : goal.returns-else-rest-len
returns-else-rest-len c =
    let ahead = c.args.ahead.now in let len = c.from_be_bytes-len.result in
    let one : slice_index ahead 0 ≡ 1 = search rules in
    let some : 1 ≤ len = omega arith in
    let within : len + 5 < length ahead = omega (arith, c.if-rest-len.false, length-take (length ahead - 5) (drop 5 ahead), length-drop 5 ahead) in
    record_at ahead len c.in-1.len_at_least one (λ i. omega (arith, c.type_inv.ahead i)) c.from_be_bytes-len.ensures some (omega arith) within

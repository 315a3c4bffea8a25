use Rattle.std.proofs.Common.{◌≤◌, ◌-◌, length, drop, arith, length-append, length-drop, length-take}
use Rattle.mem_disk.proofs.Copied.{copied_front, copied_len}
use Rattle.mem_disk.proofs.area.copy_from.Goals as goal

pub returns-clause-bytes : goal.returns-clause-bytes
returns-clause-bytes c =
    let held = c.args.held.now in let at = c.args.at in let count = c.min-count.result in
    let new = c.copy_from_slice.new.self in let out = c.args.out.now in
    let within : count ≤ length held - at = omega (arith, c.min-count.ensures, length-take (length held - at) (drop at held), length-drop at held) in
    record {
      lesser = omega (arith, c.min-count.ensures, length-take (length held - at) (drop at held), length-drop at held, copied_len held out new at count within c.copy_from_slice.ensures.after, length-append new (drop count out), length-drop count out);
      bytes = copied_front held out new at count within c.copy_from_slice.ensures.after;
    }

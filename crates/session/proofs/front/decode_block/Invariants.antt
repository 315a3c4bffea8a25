use Rattle.std.proofs.Common.{◌≡◌, take}
use Rattle.session.proofs.KitDigits.{all_lower}
use Rattle.session.proofs.front.decode_block.Given as goal

abbrev pub invariant-loop-i : goal.invariant-loop-i
invariant-loop-i l = l.lower ≡ all_lower (take l.i l.digits)

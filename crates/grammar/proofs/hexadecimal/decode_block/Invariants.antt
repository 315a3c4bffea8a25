use Rattle.std.proofs.Common.{◌≡◌, take}
use Rattle.grammar.proofs.KitHex.{all_lower}
use Rattle.grammar.proofs.hexadecimal.decode_block.Given as goal

abbrev pub invariant-loop-i : goal.invariant-loop-i
invariant-loop-i l = l.digits ≡ all_lower (take l.i l.text)

use Rattle.std.proofs.Common.{◌≡◌, take}
use Rattle.session.proofs.Grammar.KitHex.{all_lower}
use Rattle.certificate.proofs.fields.decode_digits.Given as goal

abbrev pub invariant-loop-i : goal.invariant-loop-i
invariant-loop-i l = l.digits ≡ all_lower (take l.i l.text)

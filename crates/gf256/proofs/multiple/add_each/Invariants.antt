use Rattle.std.proofs.Common.{◌≡◌, ◌<◌, ◌≤◌, ℕ, get_or, bit_xor}
use Rattle.gf256.specs.Field.{product}
use Rattle.gf256.proofs.multiple.add_each.Given as goal

abbrev pub invariant-loop-i : goal.invariant-loop-i
invariant-loop-i l =
    ((x : ℕ) → x < l.i → get_or l.target x 0 ≡ bit_xor (get_or l.fn.target x 0) (product l.c (get_or l.source x 0)))
    × ((x : ℕ) → l.i ≤ x → get_or l.target x 0 ≡ get_or l.fn.target x 0)

use Rattle.std.proofs.Common.{◌≡◌, ◌<◌, ◌*◌, ℕ, get_or}
use Rattle.gf256.specs.Field.{product}
use Rattle.gf256.proofs.multiple.write_products.Given as goal

abbrev pub invariant-loop-j : goal.invariant-loop-j
invariant-loop-j l = (x : ℕ) → x < l.j → get_or l.products x 0 ≡ product l.c (x * l.by)

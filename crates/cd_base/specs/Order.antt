-- The order of fingerprints.
use Rattle.std.specs.Prelude.{◌≡◌, ℕ, List}
use Rattle.std.specs.declared.cmp.Ordering.{Ordering}
use Rattle.std.specs.declared.cmp.Ordering.TheVariants.{Equal}
use Rattle.std.specs.Ordering.{nat_cmp}
use Rattle.std.specs.Cmp.Lexicographic.{slice_cmp}
use Rattle.std.specs.FinMap.{nat_cmp-IsAntisymmetric, slice_cmp-IsAntisymmetric}

-- byte by byte, the first byte first
abbrev pub fp_cmp : List ℕ → List ℕ → Ordering
fp_cmp = slice_cmp nat_cmp

-- only equal ones tie
pub fp_exact : (x y : List ℕ) → fp_cmp x y ≡ Equal → x ≡ y
fp_exact = slice_cmp-IsAntisymmetric nat_cmp-IsAntisymmetric

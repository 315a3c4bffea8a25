-- Where a blob lies.
use Rattle.std.proofs.Common.{◌≡◌, ◌⊎◌, ⊎_elim, ℕ, ◌+◌, ◌*◌, ◌/◌, ◌%◌, ◌<◌, ◌≤◌, arith}
use Rattle.std.proofs.lemmas.Bool.Decides.{nat_tests}
use Rattle.container_log.specs.Places.{container_len, place_of, LiesInOne, IsLeastPlace}

-- the blob fits into the rest of the container, or not
pub place_cases : (end len : ℕ) → ((end % 4194304 + len ≤ 4194304) × (place_of end len ≡ end)) ⊎ ((4194304 < end % 4194304 + len) × (place_of end len ≡ (end / 4194304 + 1) * 4194304))
place_cases end len = grind (arith, nat_tests)

pub place_behind : (end len : ℕ) → end ≤ place_of end len
place_behind end len = ⊎_elim (λ a. omega (arith, a.1)) (λ a. omega (arith, a.1)) (place_cases end len)

in_one : (end len : ℕ) → len ≤ 4194304 → LiesInOne (place_of end len) len
in_one end len few = ⊎_elim
    (λ a. record { container = end / 4194304; from = omega (arith, a.1); to = omega (arith, a.0, a.1) })
    (λ a. record { container = end / 4194304 + 1; from = omega (arith, a.1); to = omega (arith, a.1, few) })
    (place_cases end len)

least : (end len other : ℕ) → end ≤ other → LiesInOne other len → place_of end len ≤ other
least end len other behind lies = ⊎_elim (λ a. omega (arith, a.1, behind)) (λ a. omega (arith, a.0, a.1, behind, lies.from, lies.to)) (place_cases end len)

pub least_place : (end len : ℕ) → len ≤ container_len → IsLeastPlace end len (place_of end len)
least_place end len few = record { behind = place_behind end len; in_one = in_one end len few; least = least end len }

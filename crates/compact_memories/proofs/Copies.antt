-- Copies, one behind another.
use Rattle.std.proofs.Common.{◌≡◌, ℕ, ◌+◌, ◌*◌, ◌≤◌, List, [], ◌∷◌, None, Some, arith}
use Rattle.std.specs.Prelude.{All}
use Rattle.std.specs.List.{sum_by}
use Rattle.std.proofs.lemmas.List.Elements.{All-nil, All-cons, All-head, All-tail}
use Rattle.std.proofs.lemmas.List.Sums.{sum_by-cons}
use Rattle.compact_lists.specs.CdBase.ids.Fp.{Fp}
use Rattle.checkpoints.specs.ContainerLog.Places.{container_len, place_of, end_after, end_of_laid}
use Rattle.checkpoints.proofs.ContainerLog.Least.{place_behind, least_place}
use Rattle.compact_lists.specs.CdBase.place.Place.{Place}
use Rattle.checkpoints.specs.CloudAreas.Placing.{region_start, end_of, AreBehind, places_of}
use Rattle.checkpoints.specs.CloudAreas.Chains.{LiesIn, DontOverlap}
use Rattle.checkpoints.proofs.CloudAreas.Ends.{apart_more}
use Rattle.checkpoints.proofs.CloudAreas.Laid.{moves}
use Rattle.compact_memories.specs.Moved.{new_places, lens_of}

abbrev pub Share : Type 0
Share = Fp × Place

abbrev pub len_of : Share → ℕ
len_of x = x.1.len

abbrev IsSmall : Share → Type 0
IsSmall x = x.1.len ≤ container_len

lies_from : (region end : ℕ) (xs : List Share) → All IsSmall xs → region_start region ≤ end → All (λ (x : Share). LiesIn region x.1) (new_places end xs)
lies_from region end [] small le = All-nil (λ (x : Share). LiesIn region x.1)
lies_from region end (x ∷ xs) small le =
    let few = All-head IsSmall x xs small in
    let begins : region_start region ≤ place_of end x.1.len = omega (arith, place_behind end x.1.len, le) in
    All-cons (λ (y : Share). LiesIn region y.1) (x.0, record { at = place_of end x.1.len; len = x.1.len }) (new_places (end_after end x.1.len) xs)
    (begins, (least_place end x.1.len few).in_one)
    (lies_from region (end_after end x.1.len) xs (All-tail IsSmall x xs small) (omega (arith, begins)))

pub lie : (region : ℕ) (xs : List Share) → All IsSmall xs → All (λ (x : Share). LiesIn region x.1) (new_places (region_start region) xs)
lie region xs small = lies_from region (region_start region) xs small (omega arith)

behind_from : (end : ℕ) (xs : List Share) → AreBehind end (places_of (new_places end xs))
behind_from end [] = tt
behind_from end (x ∷ xs) = (place_behind end x.1.len, behind_from (end_after end x.1.len) xs)

pub apart : (region : ℕ) (xs : List Share) → DontOverlap (places_of (new_places (region_start region) xs))
apart region xs =
    apart_more (region_start region) [] (places_of (new_places (region_start region) xs))
    (λ i j p q at_i at_j. absurd (let no : None ≡ Some p = at_i in cc))
    (behind_from (region_start region) xs)

bound_from : (end : ℕ) (xs : List Share) → end_of_laid end (lens_of xs) ≤ end + 2 * sum_by len_of xs
bound_from end [] = omega arith
bound_from end (x ∷ xs) =
    omega (arith, moves end x.1.len, bound_from (end_after end x.1.len) xs, sum_by-cons len_of x xs)

pub bound : (region : ℕ) (xs : List Share) → end_of_laid (region_start region) (lens_of xs) ≤ region_start region + 2 * sum_by len_of xs
bound region xs = bound_from (region_start region) xs

no_nearer : (end : ℕ) (xs : List Share) → end ≤ end_of_laid end (lens_of xs)
no_nearer end [] = omega arith
no_nearer end (x ∷ xs) = omega (arith, place_behind end x.1.len, no_nearer (end_after end x.1.len) xs)

ends_from : (end : ℕ) (xs : List Share) → All (λ (x : Share). end_of x.1 ≤ end_of_laid end (lens_of xs)) (new_places end xs)
ends_from end [] = All-nil (λ (x : Share). end_of x.1 ≤ end)
ends_from end (x ∷ xs) =
    All-cons (λ (y : Share). end_of y.1 ≤ end_of_laid (end_after end x.1.len) (lens_of xs)) (x.0, record { at = place_of end x.1.len; len = x.1.len }) (new_places (end_after end x.1.len) xs)
    (no_nearer (end_after end x.1.len) xs)
    (ends_from (end_after end x.1.len) xs)

pub ends : (region : ℕ) (xs : List Share) → All (λ (x : Share). end_of x.1 ≤ end_of_laid (region_start region) (lens_of xs)) (new_places (region_start region) xs)
ends region xs = ends_from (region_start region) xs

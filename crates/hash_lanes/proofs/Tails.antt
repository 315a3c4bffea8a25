-- The blocks of a padded message.
use Rattle.std.proofs.Common.{◌≡◌, ℕ, ◌+◌, ◌-◌, ◌*◌, ◌/◌, ◌<◌, ◌≤◌, List, ◌++◌, length, take, drop, sym, ap, ◌∙◌, arith, length-drop}
use Rattle.std.proofs.lemmas.List.{take-append-le, drop-append-le, take-take, drop-take, drop-drop}
use Rattle.sha2.specs.Sha256.{padded_message}
use Rattle.hash_lanes.specs.Lanes.{IsTail}

-- a block of the message itself
pub whole_block : (m x : List ℕ) (t w : ℕ) → w ≡ 64 → t * 64 + 64 ≤ length m → take w (drop (64 * t) m) ≡ take 64 (drop (t * 64) (m ++ x))
whole_block m x t w wide fits =
    let e : 64 * t ≡ t * 64 = omega arith in
    rw (e, wide, drop-append-le (t * 64) m x (omega arith))
    (sym (take-append-le 64 (drop (t * 64) m) x (omega (arith, length-drop (t * 64) m))))

-- the first block behind those
pub first_behind : (m tail : List ℕ) (blocks t : ℕ) → IsTail m tail blocks → t ≡ length m / 64 → take 64 tail ≡ take 64 (drop (t * 64) (padded_message m))
first_behind m tail blocks t is e =
    sym (take-take 64 (64 * (blocks - length m / 64)) tail (omega (arith, is.more)))
    ∙ ap (take 64) is.same ∙ ap (λ (k : ℕ). take 64 (drop (k * 64) (padded_message m))) (sym e)

-- the second one
pub second_behind : (m tail : List ℕ) (blocks t : ℕ) → IsTail m tail blocks → t ≡ length m / 64 + 1 → t < blocks → take 64 (drop 64 tail) ≡ take 64 (drop (t * 64) (padded_message m))
second_behind m tail blocks t is e lt =
    let two : 64 * (blocks - length m / 64) ≡ 64 + 64 = omega (arith, is.most) in
    let at : length m / 64 * 64 + 64 ≡ t * 64 = omega arith in
    sym (take-take 64 64 (drop 64 tail) (omega arith))
    ∙ ap (take 64) (sym (drop-take 64 64 tail) ∙ ap (λ (k : ℕ). drop 64 (take k tail)) (sym two) ∙ ap (drop 64) is.same)
    ∙ ap (take 64) (drop-drop 64 (length m / 64 * 64) (padded_message m) ∙ ap (λ (k : ℕ). drop k (padded_message m)) at)

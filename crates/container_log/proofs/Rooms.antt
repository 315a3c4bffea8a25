-- Room for blobs that are no more than a container's bytes together.
use Rattle.std.proofs.Common.{◌≡◌, ⊎_elim, ℕ, ◌+◌, ◌*◌, ◌/◌, ◌≤◌, List, [], ◌∷◌, length, arith, sym, subst}
use Rattle.std.specs.Prelude.{sum_by, All}
use Rattle.std.proofs.lemmas.List.Elements.{All-head, All-tail}
use Rattle.std.proofs.lemmas.List.Sums.{sum_by-cons}
use Rattle.container_log.specs.Places.{end_after, end_of_laid}
use Rattle.container_log.specs.Laying.{lengths}
use Rattle.container_log.specs.States.{State, HasStaged, need_of}
use Rattle.container_log.proofs.Least.{place_cases}
use Rattle.container_log.proofs.Staged.{staged_end_of}

abbrev total : List (List ℕ) → ℕ
total blobs = sum_by (λ (b : List ℕ). length b) blobs

-- within one container there are no zeros
within : (container used end : ℕ) (blobs : List (List ℕ)) (len : ℕ) → end ≡ container * 4194304 + used → used + total blobs + len ≤ 4194304 → end_after (end_of_laid end (lengths blobs)) len ≡ end + total blobs + len
within container used end [] len at few = ⊎_elim (λ a. omega (arith, a.1)) (λ a. absurd (omega (arith, a.0, at, few))) (place_cases end len)
within container used end (blob ∷ blobs) len at few =
    let more = sum_by-cons (λ (b : List ℕ). length b) blob blobs in
    let next : end_after end (length blob) ≡ container * 4194304 + (used + length blob) = ⊎_elim (λ a. omega (arith, a.1, at)) (λ a. absurd (omega (arith, a.0, at, few, more))) (place_cases end (length blob)) in
    omega (arith, more, next, at, within container (used + length blob) (end_after end (length blob)) blobs len next (omega (arith, few, more)))

pub room_for : (end greatest : ℕ) (blobs : List (List ℕ)) (len : ℕ) → All (λ (b : List ℕ). length b ≤ greatest) blobs → len ≤ greatest → total blobs + len + greatest ≤ 4194304 → end_after (end_of_laid end (lengths blobs)) len ≤ end + (total blobs + len + greatest)
room_for end greatest [] len each last few = ⊎_elim (λ a. omega (arith, a.1)) (λ a. omega (arith, a.0, a.1, last)) (place_cases end len)
room_for end greatest (blob ∷ blobs) len each last few =
    let P : List ℕ → Type 0 = λ b. length b ≤ greatest in
    let more = sum_by-cons (λ (b : List ℕ). length b) blob blobs in
    let one : length blob ≤ greatest = All-head P blob blobs each in
    ⊎_elim
    (λ a. omega (arith, a.1, more, room_for (end_after end (length blob)) greatest blobs len (All-tail P blob blobs each) last (omega (arith, few, more))))
    (λ a. omega (arith, a.0, a.1, more, one, within (end / 4194304 + 1) (length blob) (end_after end (length blob)) blobs len (omega (arith, a.1)) (omega (arith, few, more))))
    (place_cases end (length blob))

pub room_staged : (log : State) (blobs : List (List ℕ)) (blob : List ℕ) (greatest : ℕ) → HasStaged log blobs → All (λ (b : List ℕ). length b ≤ greatest) blobs → length blob ≤ greatest → total blobs + length blob + greatest ≤ 4194304 → need_of log (length blob) ≤ 4194304
room_staged log blobs blob greatest has each last few =
    let room = room_for log.end greatest blobs (length blob) each last few in
    let here = subst (λ (n : ℕ). end_after n (length blob) ≤ log.end + (total blobs + length blob + greatest)) (sym (staged_end_of log blobs has)) room in
    omega (arith, here, few)

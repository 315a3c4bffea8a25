-- Values that are read one after the other, as a loop does.
use Rattle.std.proofs.Common.{◌≡◌, ℕ, suc, ◌-◌, ◌+◌, ◌≤◌, ◌<◌, List, ◌∷◌, Result, Ok, Err, refl, sym, ap, ◌∙◌, arith}
use Rattle.grammar.specs.Readers.{◌>>=◌}
use Rattle.grammar.proofs.Laws.{ok_is}
use Rattle.message_fields.specs.Parts.{times, behind}

-- what is left behind values after one more
behind_one : {A : Type 0} (first : A) (read : Result (List A × List ℕ) ℕ) → behind (read >>= λ others. Ok (first ∷ others.0, others.1)) ≡ behind read
behind_one first (Ok x) = refl
behind_one first (Err d) = refl

pub behind_goes_on : {A : Type 0} (f : List ℕ → Result (A × List ℕ) ℕ) (count i : ℕ) (bytes after : List ℕ) (x : A) (total : Result (List ℕ) ℕ) → i < count → f bytes ≡ Ok (x, after)
    → behind (times f (count - i) bytes) ≡ total → behind (times f (count - (i + 1)) after) ≡ total
unfolding times
behind_goes_on f count i bytes after x total lt h so_far =
    let k : count - i ≡ suc (count - (i + 1)) = omega arith in
    let one : behind (times f (count - i) bytes) ≡ behind (times f (count - (i + 1)) after) = rw (k, h) (behind_one x (times f (count - (i + 1)) after)) in
    sym one ∙ so_far

pub behind_stops : {A : Type 0} (f : List ℕ → Result (A × List ℕ) ℕ) (left count i : ℕ) (bytes : List ℕ) (total : Result (List ℕ) ℕ) → i < count → f bytes ≡ Err left
    → behind (times f (count - i) bytes) ≡ total → total ≡ Err left
unfolding times
behind_stops f left count i bytes total lt h so_far =
    let k : count - i ≡ suc (count - (i + 1)) = omega arith in
    let one : behind (times f (count - i) bytes) ≡ Err left = rw (k, h) refl in
    sym so_far ∙ one

pub behind_ends : {A : Type 0} (f : List ℕ → Result (A × List ℕ) ℕ) (count i : ℕ) (bytes : List ℕ) (total : Result (List ℕ) ℕ) → count ≤ i
    → behind (times f (count - i) bytes) ≡ total → total ≡ Ok bytes
unfolding times
behind_ends f count i bytes total le so_far =
    let k : count - i ≡ 0 = omega arith in
    let one : behind (times f (count - i) bytes) ≡ Ok bytes = rw k refl in
    sym so_far ∙ one

-- the values that were read, where what is left is known
pub behind_ok : {A : Type 0} (read : Result (List A × List ℕ) ℕ) (rest : List ℕ) → behind read ≡ Ok rest → (xs : List A) × (read ≡ Ok (xs, rest))
behind_ok (Ok x) rest e = (x.0, ap (λ (r : List ℕ). Ok (x.0, r)) (ok_is x.1 rest e))
behind_ok (Err d) rest e = absurd cc

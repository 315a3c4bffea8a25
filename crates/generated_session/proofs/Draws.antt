-- Drawn bytes, one after another.
use Rattle.std.proofs.Common.{◌≡◌, ℕ, zero, suc, ◌+◌, ◌-◌, ◌%◌, ◌<◌, ◌≤◌, bit_and, List, [], ◌∷◌, ◌++◌, take, set, length, refl, sym, ap, ◌∙◌, subst, arith, append_assoc, append-nil}
use Rattle.std.proofs.Math.Seq.{take-suc-set}
use Rattle.std.proofs.lemmas.List.{length-set, take_all}
use Rattle.std.proofs.lemmas.Grind.{and_numeral}
use Rattle.generated_session.specs.Drawn.{next_state, drawn}

pub drawn_more : (state count : ℕ) → drawn state (suc count) ≡ next_state state % 256 ∷ drawn (next_state state) count
unfolding drawn
drawn_more state count = refl

pub drawn_none : (state : ℕ) → drawn state 0 ≡ []
unfolding drawn
drawn_none state = refl

-- one byte more is written, from the next state on
pub wrote_more : (out : List ℕ) (place state next from all : ℕ) → place < length out → next ≡ next_state state
    → take place out ++ drawn state (length out - place) ≡ drawn from all
    → take (place + 1) (set out place (next % 256)) ++ drawn next (length out - (place + 1)) ≡ drawn from all
wrote_more out place state next from all lt is so =
    let left : length out - place ≡ suc (length out - (place + 1)) = omega arith in
    let one : place + 1 ≡ suc place = omega arith in
    let more = drawn_more state (length out - (place + 1)) in
    let front : take (place + 1) (set out place (next % 256)) ≡ take place out ++ next % 256 ∷ [] = ap (λ (n : ℕ). take n (set out place (next % 256))) one ∙ take-suc-set out place (next % 256) lt in
    ap (λ (l : List ℕ). l ++ drawn next (length out - (place + 1))) front
    ∙ append_assoc (take place out) (next % 256 ∷ []) (drawn next (length out - (place + 1)))
    ∙ ap (λ (n : ℕ). take place out ++ n % 256 ∷ drawn n (length out - (place + 1))) is
    ∙ ap (λ (l : List ℕ). take place out ++ l) (sym more)
    ∙ ap (λ (n : ℕ). take place out ++ drawn state n) (sym left)
    ∙ so

pub wrote_all : (out : List ℕ) (place state from all : ℕ) → length out ≤ place
    → take place out ++ drawn state (length out - place) ≡ drawn from all → out ≡ drawn from all
wrote_all out place state from all le so =
    let none : length out - place ≡ 0 = omega arith in
    sym (append-nil out) ∙ ap (λ (l : List ℕ). out ++ l) (sym (drawn_none state)) ∙ ap (λ (n : ℕ). out ++ drawn state n) (sym none)
    ∙ ap (λ (l : List ℕ). l ++ drawn state (length out - place)) (sym (take_all place out le)) ∙ so

-- the byte of a state, as it is cut off
pub wrote_byte : (out : List ℕ) (place state next from : ℕ) → place < length out → next ≡ next_state state
    → take place out ++ drawn state (length out - place) ≡ drawn from (length out)
    → take (place + 1) (set out place (bit_and next 255)) ++ drawn next (length (set out place (bit_and next 255)) - (place + 1)) ≡ drawn from (length (set out place (bit_and next 255)))
wrote_byte out place state next from lt is so =
    let same = length-set out place (bit_and next 255) in
    ap (λ (n : ℕ). take (place + 1) (set out place (bit_and next 255)) ++ drawn next (n - (place + 1))) same
    ∙ ap (λ (b : ℕ). take (place + 1) (set out place b) ++ drawn next (length out - (place + 1))) (and_numeral next 254 refl)
    ∙ wrote_more out place state next from (length out) lt is so ∙ ap (drawn from) (sym same)

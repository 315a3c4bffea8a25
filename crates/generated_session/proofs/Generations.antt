-- The generation of a piece in a version.
use Rattle.std.proofs.Common.{◌≡◌, ℕ, zero, suc, ◌+◌, ◌-◌, ◌%◌, ◌<◌, ◌≤◌, Bool, true, false, inl, inr, ◌⊎◌, refl, sym, ap, ◌∙◌, subst, arith, eqb, eq-eqb}
use Rattle.std.specs.Prelude.{◌==◌, ◌≢◌, if◌then◌else◌}
use Rattle.std.proofs.lemmas.Bool.{cases_eq, ne_eqb}
use Rattle.generated_session.specs.Drawn.{generation_in}

-- what a version says of a piece that is so far behind it
abbrev Says : ℕ → ℕ → ℕ → Type 0
Says version piece back = (back < version → version - back ≡ generation_in version piece) × (version ≤ back → 0 ≡ generation_in version piece)

at_it : (before piece : ℕ) → suc before % 8 ≡ piece % 8 → generation_in (suc before) piece ≡ suc before
unfolding generation_in
at_it before piece e = ap (λ (b : Bool). if b then suc before else generation_in before piece) (eq-eqb (suc before % 8) (piece % 8) e)

behind_it : (before piece : ℕ) → suc before % 8 ≢ piece % 8 → generation_in (suc before) piece ≡ generation_in before piece
unfolding generation_in
behind_it before piece ne = ap (λ (b : Bool). if b then suc before else generation_in before piece) (ne_eqb (suc before % 8) (piece % 8) ne)

none : (piece : ℕ) → generation_in 0 piece ≡ 0
unfolding generation_in
none piece = refl

step : (before piece back : ℕ) → back ≡ (suc before % 8 + 8 - piece % 8) % 8 → suc before % 8 ≢ piece % 8
    → (1 ≤ back) × (back - 1 ≡ (before % 8 + 8 - piece % 8) % 8)
step before piece back e ne = (omega arith, omega arith)

here : (before piece back : ℕ) → back ≡ (suc before % 8 + 8 - piece % 8) % 8 → suc before % 8 ≡ piece % 8 → Says (suc before) piece back
here before piece back e same = let g = at_it before piece same in (λ lt. omega arith, λ le. omega arith)

later : (before piece back : ℕ) → suc before % 8 ≢ piece % 8 → 1 ≤ back → Says before piece (back - 1) → Says (suc before) piece back
later before piece back ne some rest = (above, below)
  where
    g : generation_in (suc before) piece ≡ generation_in before piece
    g = behind_it before piece ne

    above : back < suc before → suc before - back ≡ generation_in (suc before) piece
    above lt =
        let less : back - 1 < before = omega arith in
        let same = rest.0 less in
        let number : suc before - back ≡ before - (back - 1) = omega arith in
        number ∙ same ∙ sym g

    below : suc before ≤ back → 0 ≡ generation_in (suc before) piece
    below le =
        let more : before ≤ back - 1 = omega arith in
        rest.1 more ∙ sym g

pub says : (version piece back : ℕ) → back ≡ (version % 8 + 8 - piece % 8) % 8 → Says version piece back
says zero piece back e = (λ lt. absurd (let l : back < 0 = lt in omega arith), λ le. sym (none piece))
says (suc before) piece back e = elim (cases_eq (suc before % 8) (piece % 8)) [
  | inl same ↦ here before piece back e same
  | inr ne ↦ let k = step before piece back e ne in later before piece back ne k.0 (says before piece (back - 1) k.1)
]

-- The tables, computed.
use Rattle.std.proofs.Common.{◌≡◌, ℕ, zero, suc, ◌<◌, ◌&&◌, refl, arith, Bool, true, false, eqb, eqb-true, get_or, inl, inr}
use Rattle.std.proofs.lemmas.Bool.{cases_lt}
use Rattle.rabin_chunker.specs.Cuts.{remainder}
use Rattle.rabin_chunker.specs.declared.tables.TheConstants.{LEAVING, CARRIED, LEAVING_TWO, CARRIED_TWO}
use Rattle.rabin_chunker.specs.Rolling.{leaving_of, carried_up, carry_of, carry_two_of}

-- a test that holds below n, computed
abbrev all_to : ℕ → (ℕ → Bool) → Bool
all_to zero p = true
all_to (suc n) p = p n && all_to n p

and_first : (p q : Bool) → (p && q) ≡ true → p ≡ true
and_first true q h = refl
and_first false q h = cc

and_second : (p q : Bool) → (p && q) ≡ true → q ≡ true
and_second true q h = h
and_second false q h = cc

from_all_to : (n : ℕ) (p : ℕ → Bool) → all_to n p ≡ true → (k : ℕ) → k < n → p k ≡ true
from_all_to zero p h k hk = absurd (omega arith)
from_all_to (suc n) p h k hk = elim (cases_lt k n) [
  | inl l ↦ from_all_to n p (and_second (p n) (all_to n p) h) k l
  | inr m ↦ let e : k ≡ n = omega arith in rw e (and_first (p n) (all_to n p) h)
]

leaving_all : all_to 256 (λ a. eqb (get_or LEAVING a 0) (leaving_of a)) ≡ true
unfolding leaving_of remainder
leaving_all = refl

pub leaving_at : (a : ℕ) → a < 256 → get_or LEAVING a 0 ≡ leaving_of a
leaving_at a h = eqb-true _ _ (from_all_to 256 (λ a. eqb (get_or LEAVING a 0) (leaving_of a)) leaving_all a h)

carry_all : all_to 256 (λ h. eqb (get_or CARRIED h 0) (carry_of h)) ≡ true
unfolding carry_of remainder
carry_all = refl

pub carry_at : (h : ℕ) → h < 256 → get_or CARRIED h 0 ≡ carry_of h
carry_at h l = eqb-true _ _ (from_all_to 256 (λ h. eqb (get_or CARRIED h 0) (carry_of h)) carry_all h l)

leaving_two_all : all_to 256 (λ a. eqb (get_or LEAVING_TWO a 0) (carried_up (leaving_of a))) ≡ true
unfolding leaving_of carried_up remainder
leaving_two_all = refl

pub leaving_two_at : (a : ℕ) → a < 256 → get_or LEAVING_TWO a 0 ≡ carried_up (leaving_of a)
leaving_two_at a h = eqb-true _ _ (from_all_to 256 (λ a. eqb (get_or LEAVING_TWO a 0) (carried_up (leaving_of a))) leaving_two_all a h)

carry_two_all : all_to 256 (λ h. eqb (get_or CARRIED_TWO h 0) (carry_two_of h)) ≡ true
unfolding carry_two_of carried_up remainder
carry_two_all = refl

pub carry_two_at : (h : ℕ) → h < 256 → get_or CARRIED_TWO h 0 ≡ carry_two_of h
carry_two_at h l = eqb-true _ _ (from_all_to 256 (λ h. eqb (get_or CARRIED_TWO h 0) (carry_two_of h)) carry_two_all h l)

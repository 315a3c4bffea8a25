-- The first place of a byte.
use Rattle.std.proofs.Common.{◌≡◌, ℕ, ◌≤◌, Bool, true, false, List, length, get_or, Some, None, sym, arith, inl, inr, eqb}
use Rattle.std.specs.List.{position_or_len}
use Rattle.std.proofs.lemmas.Bool.{cases_Bool}
use Rattle.std.proofs.lemmas.List.Sums.{position_or_len_is}
use Rattle.memchr.specs.Find.{IsFirstByte, is_byte}

not_true : (b : Bool) → (b ≡ true → ⊥) → b ≡ false
not_true b h = elim (cases_Bool b) [ inl t ↦ absurd (h t) | inr f ↦ f ]

pub first_place : (mark : ℕ) (bytes : List ℕ) (k : ℕ) → IsFirstByte (is_byte mark) bytes (Some k) → (k ≡ position_or_len (λ b. eqb b mark) bytes) × (k ≤ length bytes)
first_place mark bytes k h =
    let lt = h.0.high in (
      sym (position_or_len_is (λ (b : ℕ). eqb b mark) bytes k 0 (omega arith) (λ i below. not_true (eqb (get_or bytes i 0) mark) (h.0.before i (omega arith) below)) (λ _. h.1)),
      omega arith,
    )

pub no_place : (mark : ℕ) (bytes : List ℕ) → IsFirstByte (is_byte mark) bytes None → length bytes ≡ position_or_len (λ b. eqb b mark) bytes
no_place mark bytes h =
    sym (position_or_len_is (λ (b : ℕ). eqb b mark) bytes (length bytes) 0 (omega arith) (λ i below. not_true (eqb (get_or bytes i 0) mark) (h i (omega arith) below)) (λ lt. absurd (omega arith)))

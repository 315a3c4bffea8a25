-- Two ranges as one list.
use Rattle.std.proofs.Common.{◌≡◌, ◌⊎◌, inl, inr, ⊎_elim, ℕ, ◌+◌, ◌-◌, ◌<◌, ◌≤◌, List, [], ◌∷◌, ◌++◌, length, get_or, refl, ◌∙◌, sym, ap, arith, length-append}
use Rattle.std.specs.Prelude.{replicate}
use Rattle.std.proofs.lemmas.Bool.{cases_lt}
use Rattle.std.proofs.lemmas.List.{ext_get_or, get_or_append_left, get_or-append_right, get_or_past, get_or-replicate, length-replicate}
use Rattle.cd_edges.specs.Disk.{overwritten}
use Rattle.cd_edges.proofs.Overwritten.{length-overwritten, overwritten_before, overwritten_inside, overwritten_after}
use Rattle.mem_disk.specs.Areas.{joined}

module _ (first : List ℕ) (second : ℕ) (apart : length first ≤ second) where
  abbrev gap : List ℕ
  gap = replicate (second - length first) 0

  length-gap : length gap ≡ second - length first
  length-gap = length-replicate {A = ℕ} (second - length first) 0

  pub joined_long : (high : List ℕ) → 0 < length high → length (joined first second high) ≡ second + length high
  joined_long [] some = absurd (omega arith)
  joined_long (byte ∷ bytes) some = omega (arith, apart, length-append first (gap ++ byte ∷ bytes), length-append gap (byte ∷ bytes), length-gap)

  pub joined_none : (high : List ℕ) → length high ≡ 0 → joined first second high ≡ first
  joined_none [] none = refl
  joined_none (byte ∷ bytes) none = absurd (omega (arith, none))

  pub joined_below : (high : List ℕ) (k : ℕ) → k < second → get_or (joined first second high) k 0 ≡ get_or first k 0
  joined_below [] k below = refl
  joined_below (byte ∷ bytes) k below = ⊎_elim
      (λ within. get_or_append_left first (gap ++ byte ∷ bytes) 0 k within)
      (λ past. get_or-append_right first (gap ++ byte ∷ bytes) (length first) k 0 refl past
      ∙ get_or_append_left gap (byte ∷ bytes) 0 (k - length first) (omega (arith, below, past, length-gap))
      ∙ get_or-replicate (second - length first) (k - length first) 0 0 (omega (arith, below, past))
      ∙ sym (get_or_past first k 0 past))
      (cases_lt k (length first))

  pub joined_above : (high : List ℕ) (k : ℕ) → second ≤ k → get_or (joined first second high) k 0 ≡ get_or high (k - second) 0
  joined_above [] k above = get_or_past first k 0 (omega (arith, above, apart))
  joined_above (byte ∷ bytes) k above =
      get_or-append_right first (gap ++ byte ∷ bytes) (length first) k 0 refl (omega (arith, above, apart))
      ∙ get_or-append_right gap (byte ∷ bytes) (second - length first) (k - length first) 0 length-gap (omega (arith, above, apart))
      ∙ ap (λ (n : ℕ). get_or (byte ∷ bytes) n 0) (omega (arith, above, apart))

-- a write into the first range
module _ (first : List ℕ) (second : ℕ) (apart : length first ≤ second) (at : ℕ) (bytes : List ℕ) (within : at + length bytes ≤ second) where
  new_apart : length (overwritten first at bytes) ≤ second
  new_apart = omega (arith, within, apart, length-overwritten first at bytes)

  put_first_at : (high : List ℕ) (k : ℕ) → get_or (joined (overwritten first at bytes) second high) k 0 ≡ get_or (overwritten (joined first second high) at bytes) k 0
  put_first_at high k = ⊎_elim
      (λ before. joined_below (overwritten first at bytes) second new_apart high k (omega (arith, before, within)) ∙ overwritten_before first at bytes k before
      ∙ sym (overwritten_before (joined first second high) at bytes k before ∙ joined_below first second apart high k (omega (arith, before, within))))
      (λ from. ⊎_elim
      (λ inside. joined_below (overwritten first at bytes) second new_apart high k (omega (arith, inside, within))
      ∙ ap (λ (n : ℕ). get_or (overwritten first at bytes) n 0) (omega (arith, from)) ∙ overwritten_inside first at bytes (k - at) (omega (arith, inside, from))
      ∙ sym (ap (λ (n : ℕ). get_or (overwritten (joined first second high) at bytes) n 0) (omega (arith, from)) ∙ overwritten_inside (joined first second high) at bytes (k - at) (omega (arith, inside, from))))
      (λ behind. ⊎_elim
      (λ below. joined_below (overwritten first at bytes) second new_apart high k below ∙ overwritten_after first at bytes k behind
      ∙ sym (overwritten_after (joined first second high) at bytes k behind ∙ joined_below first second apart high k below))
      (λ above. joined_above (overwritten first at bytes) second new_apart high k above
      ∙ sym (overwritten_after (joined first second high) at bytes k behind ∙ joined_above first second apart high k above))
      (cases_lt k second))
      (cases_lt k (at + length bytes)))
      (cases_lt k at)

  pub put_first : (high : List ℕ) → joined (overwritten first at bytes) second high ≡ overwritten (joined first second high) at bytes
  put_first [] = refl
  put_first (byte ∷ more) = ext_get_or 0 _ _
      (omega (arith, within, joined_long (overwritten first at bytes) second new_apart (byte ∷ more) (omega arith), length-overwritten (joined first second (byte ∷ more)) at bytes, joined_long first second apart (byte ∷ more) (omega arith)))
      (λ k _. put_first_at (byte ∷ more) k)

-- a write into the second range
module _ (first : List ℕ) (second : ℕ) (apart : length first ≤ second) (at : ℕ) (bytes : List ℕ) (from : second ≤ at) (some : second < at + length bytes) where
  put_second_at : (high : List ℕ) (k : ℕ) → get_or (joined first second (overwritten high (at - second) bytes)) k 0 ≡ get_or (overwritten (joined first second high) at bytes) k 0
  put_second_at high k = ⊎_elim
      (λ below. joined_below first second apart (overwritten high (at - second) bytes) k below
      ∙ sym (overwritten_before (joined first second high) at bytes k (omega (arith, below, from)) ∙ joined_below first second apart high k below))
      (λ above. joined_above first second apart (overwritten high (at - second) bytes) k above ∙ ⊎_elim
      (λ before. overwritten_before high (at - second) bytes (k - second) (omega (arith, before, above))
      ∙ sym (overwritten_before (joined first second high) at bytes k before ∙ joined_above first second apart high k above))
      (λ past. ⊎_elim
      (λ inside. ap (λ (n : ℕ). get_or (overwritten high (at - second) bytes) n 0) (omega (arith, past, from)) ∙ overwritten_inside high (at - second) bytes (k - at) (omega (arith, inside, past))
      ∙ sym (ap (λ (n : ℕ). get_or (overwritten (joined first second high) at bytes) n 0) (omega (arith, past)) ∙ overwritten_inside (joined first second high) at bytes (k - at) (omega (arith, inside, past))))
      (λ behind. overwritten_after high (at - second) bytes (k - second) (omega (arith, behind, from))
      ∙ sym (overwritten_after (joined first second high) at bytes k behind ∙ joined_above first second apart high k above))
      (cases_lt k (at + length bytes)))
      (cases_lt k at))
      (cases_lt k second)

  joined_length : (high : List ℕ) → (length (joined first second high) ≡ second + length high) ⊎ ((length (joined first second high) ≡ length first) × (length high ≡ 0))
  joined_length [] = inr (refl, refl)
  joined_length (byte ∷ more) = inl (joined_long first second apart (byte ∷ more) (omega arith))

  pub put_second : (high : List ℕ) → joined first second (overwritten high (at - second) bytes) ≡ overwritten (joined first second high) at bytes
  put_second high = ext_get_or 0 _ _ (⊎_elim
      (λ is. omega (arith, from, some, long, length-overwritten high (at - second) bytes, length-overwritten (joined first second high) at bytes, is))
      (λ none. omega (arith, from, some, long, length-overwritten high (at - second) bytes, length-overwritten (joined first second high) at bytes, none.0, none.1, apart))
      (joined_length high)) (λ k _. put_second_at high k)
    where
      long : length (joined first second (overwritten high (at - second) bytes)) ≡ second + length (overwritten high (at - second) bytes)
      long = joined_long first second apart (overwritten high (at - second) bytes) (omega (arith, from, some, length-overwritten high (at - second) bytes))

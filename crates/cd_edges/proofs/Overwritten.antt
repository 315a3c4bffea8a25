-- What a write leaves at each place.
use Rattle.std.proofs.Common.{◌≡◌, ⊎_elim, ℕ, ◌+◌, ◌-◌, ◌<◌, ◌≤◌, max, List, ◌++◌, length, take, drop, ◌∙◌, sym, ap, arith, get_or, length-append, length-take, length-drop, get_or-take, get_or-drop}
use Rattle.std.specs.Prelude.{replicate}
use Rattle.std.proofs.lemmas.Bool.{cases_lt}
use Rattle.std.proofs.lemmas.List.{get_or_append_left, get_or-append_right, get_or_past, get_or-replicate, length-replicate}
use Rattle.cd_edges.specs.Disk.{overwritten}

pub length-overwritten : (old : List ℕ) (place : ℕ) (bytes : List ℕ) → length (overwritten old place bytes) ≡ max (place + length bytes) (length old)
length-overwritten old place bytes =
    omega (arith, length-append (take place (old ++ replicate (place - length old) 0) ++ bytes) (drop (place + length bytes) old), length-append (take place (old ++ replicate (place - length old) 0)) bytes, length-take place (old ++ replicate (place - length old) 0), length-append old (replicate (place - length old) 0), length-replicate {A = ℕ} (place - length old) 0, length-drop (place + length bytes) old)

module _ (old : List ℕ) (place : ℕ) (bytes : List ℕ) where
  -- the old bytes, with the gap filled
  abbrev filled : List ℕ
  filled = old ++ replicate (place - length old) 0

  length-front : length (take place filled) ≡ place
  length-front = omega (arith, length-take place filled, length-append old (replicate (place - length old) 0), length-replicate {A = ℕ} (place - length old) 0)

  length-written : length (take place filled ++ bytes) ≡ place + length bytes
  length-written = omega (arith, length-append (take place filled) bytes, length-front)

  -- a zero of the gap, or a byte before it
  filled_at : (k : ℕ) → k < place → get_or filled k 0 ≡ get_or old k 0
  filled_at k below = ⊎_elim
      (λ within. get_or_append_left old (replicate (place - length old) 0) 0 k within)
      (λ past. get_or-append_right old (replicate (place - length old) 0) (length old) k 0 (omega arith) past
      ∙ get_or-replicate (place - length old) (k - length old) 0 0 (omega (arith, below, past))
      ∙ sym (get_or_past old k 0 past))
      (cases_lt k (length old))

  pub overwritten_before : (k : ℕ) → k < place → get_or (overwritten old place bytes) k 0 ≡ get_or old k 0
  overwritten_before k below =
      get_or_append_left (take place filled ++ bytes) (drop (place + length bytes) old) 0 k (omega (arith, below, length-written))
      ∙ get_or_append_left (take place filled) bytes 0 k (omega (arith, below, length-front))
      ∙ get_or-take place filled k 0 below
      ∙ filled_at k below

  pub overwritten_inside : (k : ℕ) → k < length bytes → get_or (overwritten old place bytes) (place + k) 0 ≡ get_or bytes k 0
  overwritten_inside k within =
      get_or_append_left (take place filled ++ bytes) (drop (place + length bytes) old) 0 (place + k) (omega (arith, within, length-written))
      ∙ get_or-append_right (take place filled) bytes place (place + k) 0 length-front (omega arith)
      ∙ ap (λ (n : ℕ). get_or bytes n 0) (omega arith)

  pub overwritten_after : (k : ℕ) → place + length bytes ≤ k → get_or (overwritten old place bytes) k 0 ≡ get_or old k 0
  overwritten_after k above =
      get_or-append_right (take place filled ++ bytes) (drop (place + length bytes) old) (place + length bytes) k 0 length-written above
      ∙ get_or-drop (place + length bytes) old (k - (place + length bytes)) 0
      ∙ ap (λ (n : ℕ). get_or old n 0) (omega (arith, above))

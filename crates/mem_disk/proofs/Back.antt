-- What was written since the last sync, from the last note back.
use Rattle.std.proofs.Common.{◌≡◌, ℕ, suc, ◌+◌, ◌-◌, ◌<◌, Bool, true, false, not, cond, List, [], ◌∷◌, length, take, get_or, refl, ◌∙◌, sym, ap, arith}
use Rattle.std.proofs.Math.Seq.{take-suc}
use Rattle.cd_edges.specs.declared.area.Area.{Area}
use Rattle.mem_disk.specs.declared.note.Note.{Note}
use Rattle.mem_disk.specs.declared.note.Note.TheVariants.{Wrote, Synced, Emptied, Crashed}
use Rattle.mem_disk.specs.Crashed.{filled_from, same_area, with_note, ranges_in}
use Rattle.mem_disk.proofs.DiskSteps.{ranges_more}
use Rattle.mem_disk.proofs.Filled.{filled_none, filled_more}

-- a note says what it fills, and whether those before it fill too
abbrev pub Fills : ℕ → ℕ → Area → Note → List ℕ → List ℕ → Bool → Type 0
Fills from fill area note bytes new on = (ranges : List (ℕ × ℕ)) → filled_from from fill (with_note area ranges note) bytes ≡ cond on (filled_from from fill ranges new) new

module _ (from fill : ℕ) (area : Area) (note : Note) (bytes : List ℕ) where
  pub wrote_here : (other : Area) (place start len : ℕ) (new : List ℕ) → note ≡ Wrote other place start len → same_area other area ≡ true → new ≡ filled_from from fill ((place, place + len) ∷ []) bytes → Fills from fill area note bytes new true
  wrote_here other place start len new is same new_is ranges =
      ap (λ (n : Note). filled_from from fill (with_note area ranges n) bytes) is
      ∙ ap (λ (b : Bool). filled_from from fill (cond b ((place, place + len) ∷ ranges) ranges) bytes) same
      ∙ filled_more from fill (place, place + len) ranges bytes ∙ ap (λ (l : List ℕ). filled_from from fill ranges l) (sym new_is)

  pub wrote_there : (other : Area) (place start len : ℕ) → note ≡ Wrote other place start len → same_area other area ≡ false → Fills from fill area note bytes bytes true
  wrote_there other place start len is same ranges =
      ap (λ (n : Note). filled_from from fill (with_note area ranges n) bytes) is
      ∙ ap (λ (b : Bool). filled_from from fill (cond b ((place, place + len) ∷ ranges) ranges) bytes) same

  pub was_synced : (other : Area) (on : Bool) → note ≡ Synced other → on ≡ not (same_area other area) → Fills from fill area note bytes bytes on
  was_synced other on is on_is ranges =
      ap (λ (n : Note). filled_from from fill (with_note area ranges n) bytes) is
      ∙ cases (same_area other area) ∙ ap (λ (b : Bool). cond b (filled_from from fill ranges bytes) bytes) (sym on_is)
    where
      cases : (b : Bool) → filled_from from fill (cond b [] ranges) bytes ≡ cond (not b) (filled_from from fill ranges bytes) bytes
      cases true = filled_none from fill bytes
      cases false = refl

  pub was_emptied : note ≡ Emptied → Fills from fill area note bytes bytes false
  was_emptied is ranges = ap (λ (n : Note). filled_from from fill (with_note area ranges n) bytes) is ∙ filled_none from fill bytes

  pub was_crashed : (byte : ℕ) (whole : Bool) → note ≡ Crashed byte whole → Fills from fill area note bytes bytes false
  was_crashed byte whole is ranges = ap (λ (n : Note). filled_from from fill (with_note area ranges n) bytes) is ∙ filled_none from fill bytes

module _ (from fill : ℕ) (area : Area) (notes : List Note) (gone : ℕ) (d : Note) (bytes new target : List ℕ) (on : Bool) (within : gone < length notes)
    (fills : Fills from fill area (get_or notes (length notes - 1 - gone) d) bytes new on) (so_far : filled_from from fill (ranges_in area [] (take (length notes - gone) notes)) bytes ≡ target) where
  ranges_are : ranges_in area [] (take (length notes - gone) notes) ≡ with_note area (ranges_in area [] (take (length notes - (gone + 1)) notes)) (get_or notes (length notes - 1 - gone) d)
  ranges_are =
      let count : ℕ = length notes - 1 - gone in let note : Note = get_or notes count d in
      let one : length notes - gone ≡ suc count = omega (arith, within) in
      let same : count ≡ length notes - (gone + 1) = omega (arith, within) in
      let below : count < length notes = omega (arith, within) in
      ap (λ (n : ℕ). ranges_in area [] (take n notes)) one
      ∙ ap (λ (l : List Note). ranges_in area [] l) (take-suc notes count d below)
      ∙ ranges_more area [] (take count notes) note
      ∙ ap (λ (n : ℕ). with_note area (ranges_in area [] (take n notes)) note) same

  step : cond on (filled_from from fill (ranges_in area [] (take (length notes - (gone + 1)) notes)) new) new ≡ target
  step = sym (fills (ranges_in area [] (take (length notes - (gone + 1)) notes))) ∙ ap (λ (l : List (ℕ × ℕ)). filled_from from fill l bytes) (sym ranges_are) ∙ so_far

  pub goes_back : on ≡ true → filled_from from fill (ranges_in area [] (take (length notes - (gone + 1)) notes)) new ≡ target
  goes_back goes = ap (λ (b : Bool). cond b (filled_from from fill (ranges_in area [] (take (length notes - (gone + 1)) notes)) new) new) (sym goes) ∙ step

  pub ends_here : on ≡ false → new ≡ target
  ends_here ends = ap (λ (b : Bool). cond b (filled_from from fill (ranges_in area [] (take (length notes - (gone + 1)) notes)) new) new) (sym ends) ∙ step

-- no note is left
pub none_left : (from fill : ℕ) (area : Area) (notes : List Note) (count : ℕ) (new target : List ℕ) → count ≡ 0 → filled_from from fill (ranges_in area [] (take count notes)) new ≡ target → new ≡ target
none_left from fill area notes count new target none so_far = sym (ap (λ (n : ℕ). filled_from from fill (ranges_in area [] (take n notes)) new) none ∙ filled_none from fill new) ∙ so_far

-- What a buffer has of the area of recipes.
use Rattle.std.proofs.Common.{◌≡◌, ⊎_elim, ℕ, ◌+◌, ◌≤◌, min, IsTrue, List, length, take, drop, sym, ap, ◌∙◌, subst, arith, length-drop}
use Rattle.std.proofs.lemmas.Bool.{cases_lt}
use Rattle.std.proofs.lemmas.List.{take_all, take-take, drop-take, drop-drop}
use Rattle.cloud_disk.specs.CdEdges.area.Area.TheVariants.{Recipes}
use Rattle.cloud_disk.specs.CdEdges.Disk.{Areas, Cloud}
use Rattle.cloud_disk.specs.CdEdges.Shelf.{Stays}
use Rattle.cloud_opening.specs.declared.window.Window.{Window}
use Rattle.cloud_opening.specs.Windows.{IsFrontOfWindow, ShowsWindow}

-- a part of what the buffer has
pub found : (buffer held : List ℕ) (at n from len place : ℕ) → take n buffer ≡ take n (drop at held) → place ≡ at + from → from + len ≤ n
    → take len (drop from buffer) ≡ take len (drop place held)
found buffer held at n from len place same is few =
    sym (drop-take from len buffer) ∙ ap (λ (l : List ℕ). drop from l) (sym (take-take (from + len) n buffer few) ∙ ap (take (from + len)) same ∙ take-take (from + len) n (drop at held) few)
    ∙ drop-take from len (drop at held) ∙ ap (λ (l : List ℕ). take len l) (drop-drop from at held ∙ ap (λ (p : ℕ). drop p held) (sym is))

-- as many bytes as there are, or all that are asked for
whole_part : (at : List ℕ) (size count : ℕ) → count ≡ min size (length at) → take count at ≡ take size at
whole_part at size count is = ⊎_elim
    (λ short. take_all count at (omega (arith, is, short)) ∙ sym (take_all size at (omega (arith, short))))
    (λ full. let same : count ≡ size = omega (arith, is, full) in ap (λ (n : ℕ). take n at) same)
    (cases_lt (length at) size)

-- the front of what was read there
pub read_there : (held buffer : List ℕ) (place len count asked few : ℕ) → IsFrontOfWindow held place len count buffer → asked ≤ len → few ≡ min count asked
    → take few buffer ≡ take asked (drop place held)
read_there held buffer place len count asked few front more is =
    sym (take-take few count buffer (omega (arith, is))) ∙ ap (take few) front.bytes ∙ take-take few count (drop place held) (omega (arith, is))
    ∙ whole_part (drop place held) asked few (omega (arith, is, front.lesser, length-drop place held, more))

-- nothing
pub shows_none : (cloud : Cloud) (window : Window) (buffer : List ℕ) → window.len ≡ 0 → ShowsWindow cloud window buffer
shows_none cloud window buffer none = record {
  held = omega (arith, none);
  bytes = λ told. ap (λ (n : ℕ). take n buffer) none ∙ sym (ap (λ (n : ℕ). take n (drop window.at (cloud.now Recipes).read)) none);
}

-- the same over a cloud that stays
pub shows_still : (c0 c1 : Cloud) (window : Window) (buffer : List ℕ) → Stays c0 c1 → c1.told ≡ c0.told → ShowsWindow c0 window buffer → ShowsWindow c1 window buffer
shows_still c0 c1 window buffer stays told shows = record {
  held = shows.held;
  bytes = λ told1. subst (λ (a : Areas). take window.len buffer ≡ take window.len (drop window.at (a Recipes).read)) (sym stays.now) (shows.bytes (subst IsTrue told told1));
}

-- what was read just now
pub shows_read : (c0 c1 : Cloud) (window : Window) (buffer : List ℕ) (len : ℕ) → Stays c0 c1 → c1.told ≡ c0.told → window.len ≤ length buffer
    → (IsTrue c0.told → IsFrontOfWindow (c0.now Recipes).read window.at len window.len buffer) → ShowsWindow c1 window buffer
shows_read c0 c1 window buffer len stays told held front =
    shows_still c0 c1 window buffer stays told (record { held = held; bytes = λ told0. (front told0).bytes })

-- however much was taken
pub shows_taken : (cloud : Cloud) (window : Window) (buffer : List ℕ) (taken : ℕ) → ShowsWindow cloud window buffer → ShowsWindow cloud (record window { taken = taken }) buffer
shows_taken cloud window buffer taken shows = record { held = shows.held; bytes = shows.bytes }

-- Bounds of the numbers.
use Rattle.std.proofs.Common.{◌≡◌, ℕ, ◌+◌, ◌-◌, ◌<◌, ◌≤◌, refl, ◌∙◌, arith}
use Rattle.generated_session.specs.declared.numbers.Numbers.{Numbers}
use Rattle.generated_session.specs.Progress.{no_numbers, HasRoom, GrowsByLanes, AreWithin}

pub grows_none : (n : Numbers) → GrowsByLanes 0 n n
grows_none n = record { stored = omega arith; sent = omega arith; known = omega arith; bytes = refl; equal = refl }

pub grows_within : (lanes more : ℕ) (n m : Numbers) → lanes ≤ more → GrowsByLanes lanes n m → GrowsByLanes more n m
grows_within lanes more n m le g = record {
  stored = omega (arith, g.stored);
  sent = omega (arith, g.sent);
  known = omega (arith, g.known);
  bytes = g.bytes;
  equal = g.equal;
}

pub grows_more : (lanes more : ℕ) (n k m : Numbers) → lanes + 1 ≤ more → GrowsByLanes lanes n k → GrowsByLanes 1 k m → GrowsByLanes more n m
grows_more lanes more n k m le one two = record {
  stored = omega (arith, one.stored, two.stored);
  sent = omega (arith, one.sent, two.sent);
  known = omega (arith, one.known, two.known);
  bytes = two.bytes ∙ one.bytes;
  equal = two.equal ∙ one.equal;
}

pub room_for : (lanes : ℕ) (n m : Numbers) → lanes < 256 → HasRoom 256 n → GrowsByLanes lanes n m → HasRoom 1 m
room_for lanes n m lt room grows = record {
  stored = omega (arith, room.stored, grows.stored);
  sent = omega (arith, room.sent, grows.sent);
  known = omega (arith, room.known, grows.known);
}

pub within_more : (number len : ℕ) (n m : Numbers) → 1 ≤ number → len ≤ 67108864 → AreWithin (number - 1) n → GrowsByLanes 256 (record n { bytes = n.bytes + len }) m → AreWithin number m
within_more number len n m some few within grows = record {
  bytes = omega (arith, within.bytes, grows.bytes);
  stored = omega (arith, within.stored, grows.stored);
  sent = omega (arith, within.sent, grows.sent);
  known = omega (arith, within.known, grows.known);
}

pub within_none : AreWithin 0 no_numbers
within_none = record { bytes = omega arith; stored = omega arith; sent = omega arith; known = omega arith }

use Rattle.std.proofs.Common.{ℕ, ◌<◌, length, take, slice_index_or}
use Rattle.share_digests.specs.Digests.{HasAllPlaces}
use Rattle.share_digests.proofs.order.write_places.Given as goal

abbrev pub invariant-places : goal.invariant-places
invariant-places l = HasAllPlaces l.place (take l.place l.order) × ((k : ℕ) (d : ℕ × ℕ) → k < l.place → (slice_index_or l.order k d).1 < length l.order)

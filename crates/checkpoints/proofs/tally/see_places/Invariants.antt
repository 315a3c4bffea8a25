use Rattle.checkpoints.proofs.Tallied.{PlacesSeen}
use Rattle.checkpoints.proofs.tally.see_places.Given as goal

abbrev pub invariant-loop-slot : goal.invariant-loop-slot
invariant-loop-slot l = PlacesSeen l.shares.place_slots l.slot

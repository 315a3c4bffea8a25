-- One count of one cloud rises.
use Rattle.std.proofs.Common.{◌≡◌, ◌≢◌, ℕ, ◌≤◌, slice_index, false, [], None, refl, ap}
use Rattle.cd_edges.specs.Shelf.{IsCall, stable}
use Rattle.real_edges.specs.declared.tally.Tally.{Tally}
use Rattle.real_edges.specs.Untold.{cloud_of}

-- a tally shows the same of a cloud where its counts are the same
same_cloud : (old new : Tally) (number : ℕ) → slice_index new.faults number ≡ slice_index old.faults number → slice_index new.armings number ≡ slice_index old.armings number → cloud_of new number ≡ cloud_of old number
same_cloud old new number faults armings = λ i. record { told = false; faults = faults i; armings = armings i; armed = None; past = []; now = λ area. stable [] }

pub called : (old new : Tally) (number : ℕ) → ((other : ℕ) → other ≢ number → slice_index new.faults other ≡ slice_index old.faults other) → slice_index old.faults number ≤ slice_index new.faults number
    → new.armings ≡ old.armings → old.total ≤ new.total → IsCall (cloud_of old) (cloud_of new) number old.total new.total
called old new number others later armings total_later = record {
  others = λ other ne. same_cloud old new other (others other ne) (ap (λ l. slice_index l other) armings);
  told = refl;
  armings = ap (λ l. slice_index l number) armings;
  later = later;
  total_later = total_later;
}

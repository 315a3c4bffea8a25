-- A cloud of which only the counts are told.
use Rattle.std.specs.Prelude.{◌≡◌, ℕ, false, [], None, IsTrue, slice_index}
use Rattle.std.proofs.Common.{sym, ◌∙◌}
use Rattle.std.proofs.lemmas.Bool.{false≢true}
use Rattle.cd_edges.specs.Disk.{Cloud}
use Rattle.cd_edges.specs.Shelf.{stable}
use Rattle.real_edges.specs.declared.tally.Tally.{Tally}

abbrev pub cloud_of : Tally → ℕ → Cloud
cloud_of tally number = record {
  told = false;
  faults = slice_index tally.faults number;
  armings = slice_index tally.armings number;
  armed = None;
  past = [];
  now = λ area. stable [];
}

pub untold_is_not : (cloud : Cloud) → cloud.told ≡ false → IsTrue cloud.told → ⊥
untold_is_not cloud untold told = false≢true (sym untold ∙ told)

use Rattle.std.proofs.Common.{◌≡◌, ◌≤◌, ◌<◌, take, count_by}
use Rattle.pool_map.specs.Slots.{IsListed}
use Rattle.share_index.specs.Owning.{shows_fp}
use Rattle.share_index.proofs.owners.OwnerTable.count_of.Given as goal

abbrev pub invariant-loop-slot : goal.invariant-loop-slot
invariant-loop-slot l = record {
  counted : l.count ≡ count_by (shows_fp l.fp) (take l.slot l.self.slots);
  few : l.count ≤ l.slot;
  each : 0 < l.slot → IsListed l.self.owners l.self.slots;
}

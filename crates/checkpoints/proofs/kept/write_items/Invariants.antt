use Rattle.std.proofs.Common.{◌≡◌, ◌+◌, ◌++◌, ◌≤◌, ◌*◌, length, drop}
use Rattle.std.specs.List.{flat_map}
use Rattle.cloud_memory.specs.RecordBody.Spelling.{kept_bytes}
use Rattle.cloud_memory.specs.RecordBody.Spelling.{Kept, body_bytes}
use Rattle.checkpoints.proofs.kept.write_items.Given as goal

abbrev pub invariant-loop-item : goal.invariant-loop-item
invariant-loop-item l = record {
  bytes : body_bytes (Kept l.items) ≡ l.buffer ++ flat_map kept_bytes (drop l.item-index l.items);
  long : length l.buffer ≤ 3 + 44 * l.item-index;
}

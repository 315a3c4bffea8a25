use Rattle.std.proofs.Common.{◌≡◌, ◌+◌, ◌++◌, ◌≤◌, ◌*◌, length, drop}
use Rattle.std.specs.List.{flat_map}
use Rattle.checkpoints.specs.RecordBody.FirstSpelling.{item_bytes}
use Rattle.checkpoints.specs.RecordBody.Spelling.{Put, body_bytes}
use Rattle.cloud_store.proofs.writing.write_put.Given as goal

abbrev pub invariant-loop-item : goal.invariant-loop-item
invariant-loop-item l = record {
  bytes : body_bytes (Put l.fn.user l.items) ≡ l.buffer ++ flat_map item_bytes (drop l.item-index l.items);
  long : length l.buffer ≤ 7 + 45 * l.item-index;
}

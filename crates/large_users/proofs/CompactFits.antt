-- What isn't dead fits records as before.
use Rattle.std.proofs.Common.{ap, refl}
use Rattle.std.specs.Prelude.{option_map}
use Rattle.std.specs.FinMap.{get}
use Rattle.compact_memories.specs.CloudMemory.cloud.CloudMemory.{CloudMemory}
use Rattle.compact_memories.specs.CloudMemory.Fitting.{FitsRecords}
use Rattle.compact_memories.specs.CloudMemory.Memory.{Memory, summary}
use Rattle.compact_memories.specs.CloudMemory.Rooms.{memory_of}
use Rattle.compact_memories.specs.Checkpoints.Known.{AreListed}
use Rattle.compact_memories.specs.Kept.{IsCompacted}
use Rattle.compact_memories.proofs.Compacted.{IsLike}
use Rattle.compact_memories.proofs.Fits.{like_fits}

is_like : (old : CloudMemory) (new : Memory) → IsCompacted old new → IsLike old new
is_like old new c = record {
  from = λ fp place at. (place, (c.places fp place).0 at, refl);
  to = λ fp p live. (p, (c.places fp p).1 live);
  owners = c.owners;
  files = λ key. ap (λ m. option_map summary (get m key)) c.files;
}

pub compacted_fits : (old : CloudMemory) (new : Memory) → AreListed old → FitsRecords (memory_of old) → IsCompacted old new → FitsRecords new
compacted_fits old new l fit c = like_fits old l fit new (is_like old new c)

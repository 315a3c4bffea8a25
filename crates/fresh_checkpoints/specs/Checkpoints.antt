-- What checkpoints says, for callers.
pub use Rattle.compact_memories.specs.Checkpoints.CloudDisk
pub use Rattle.compact_memories.specs.Checkpoints.Known
pub use Rattle.compact_memories.specs.Checkpoints.Laying
pub use Rattle.compact_memories.specs.Checkpoints.Picking
pub use Rattle.compact_memories.specs.Checkpoints.Records
pub use Rattle.compact_memories.specs.Checkpoints.Settling
pub use Rattle.compact_memories.specs.Checkpoints.whole

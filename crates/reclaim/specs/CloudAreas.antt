-- What cloud_areas says, for callers.
pub use Rattle.compact_memories.specs.CloudAreas.Placing
pub use Rattle.compact_memories.specs.CloudAreas.Standing

-- What blob_copy says, for callers.
pub use Rattle.blob_copy.specs.Answers
pub use Rattle.blob_copy.specs.CompactMemories
pub use Rattle.blob_copy.specs.Copies
pub use Rattle.blob_copy.specs.Copying

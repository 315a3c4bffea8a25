-- What file_index says, for callers.
pub use Rattle.file_index.specs.Files
pub use Rattle.file_index.specs.Order
pub use Rattle.file_index.specs.declared.key

-- What recipe says, for callers.
pub use Rattle.server_reads.specs.Recipe.Reading
pub use Rattle.server_reads.specs.Recipe.Spelling
pub use Rattle.server_reads.specs.Recipe.recipe

-- What grammar says, for callers.
pub use Rattle.grammar.specs.Fields
pub use Rattle.grammar.specs.Readers

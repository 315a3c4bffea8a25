-- What grammar says, for callers.
pub use Rattle.grammar.specs.Fields
pub use Rattle.grammar.specs.Hexadecimal
pub use Rattle.grammar.specs.Numerals
pub use Rattle.grammar.specs.Readers
pub use Rattle.grammar.specs.Words
pub use Rattle.grammar.specs.declared.stop

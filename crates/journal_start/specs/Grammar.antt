-- What grammar says, for callers.
pub use Rattle.message_fields.specs.Grammar.Hexadecimal
pub use Rattle.message_fields.specs.Grammar.Numerals
pub use Rattle.message_fields.specs.Grammar.Readers
pub use Rattle.message_fields.specs.Grammar.Words
pub use Rattle.message_fields.specs.Grammar.stop

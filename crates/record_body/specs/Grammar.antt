-- What grammar says, for callers.
pub use Rattle.message_fields.specs.Grammar.Fields
pub use Rattle.message_fields.specs.Grammar.Readers

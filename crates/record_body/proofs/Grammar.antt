-- What grammar has proved, for callers.
pub use Rattle.message_fields.proofs.Grammar.FieldLaws
pub use Rattle.message_fields.proofs.Grammar.Laws

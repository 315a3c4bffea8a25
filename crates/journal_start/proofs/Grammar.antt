-- What grammar has proved, for callers.
pub use Rattle.message_fields.proofs.Grammar.HexadecimalLaws
pub use Rattle.message_fields.proofs.Grammar.KitHex
pub use Rattle.message_fields.proofs.Grammar.Laws
pub use Rattle.message_fields.proofs.Grammar.NumeralLaws
pub use Rattle.message_fields.proofs.Grammar.WordLaws

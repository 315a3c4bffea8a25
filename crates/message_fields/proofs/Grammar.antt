-- What grammar has proved, for callers.
pub use Rattle.grammar.proofs.FieldLaws
pub use Rattle.grammar.proofs.HexadecimalLaws
pub use Rattle.grammar.proofs.KitHex
pub use Rattle.grammar.proofs.Laws
pub use Rattle.grammar.proofs.NumeralLaws
pub use Rattle.grammar.proofs.WordLaws

-- What grammar has proved, for callers.
pub use Rattle.journal_start.proofs.Grammar.HexadecimalLaws
pub use Rattle.journal_start.proofs.Grammar.KitHex
pub use Rattle.journal_start.proofs.Grammar.Laws
pub use Rattle.journal_start.proofs.Grammar.NumeralLaws
pub use Rattle.journal_start.proofs.Grammar.WordLaws

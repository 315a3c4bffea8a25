-- What journal_halves has proved, for callers.
pub use Rattle.journal_halves.proofs.Chain
pub use Rattle.journal_halves.proofs.Current
pub use Rattle.journal_halves.proofs.Headed
pub use Rattle.journal_halves.proofs.Laying
pub use Rattle.journal_halves.proofs.Looks
pub use Rattle.journal_halves.proofs.Unique

-- What grammar says, for callers.
pub use Rattle.journal_start.specs.Grammar.Hexadecimal
pub use Rattle.journal_start.specs.Grammar.Numerals
pub use Rattle.journal_start.specs.Grammar.Readers
pub use Rattle.journal_start.specs.Grammar.Words
pub use Rattle.journal_start.specs.Grammar.stop

-- What spent_table says, for callers.
pub use Rattle.record_laws.specs.SpentTable.Spent

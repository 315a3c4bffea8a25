-- What spent_table says, for callers.
pub use Rattle.record_checks.specs.SpentTable.Spending
pub use Rattle.record_checks.specs.SpentTable.Spent

-- What spent_table says, for callers.
pub use Rattle.checkpoints.specs.SpentTable.Spending
pub use Rattle.checkpoints.specs.SpentTable.Spent

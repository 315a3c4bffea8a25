-- What spent_table says, for callers.
pub use Rattle.cloud_memory.specs.SpentTable.Spending
pub use Rattle.cloud_memory.specs.SpentTable.Spent

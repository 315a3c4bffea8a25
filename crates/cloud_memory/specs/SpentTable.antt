-- What spent_table says, for callers.
pub use Rattle.spent_table.specs.Spending
pub use Rattle.spent_table.specs.declared.Spent

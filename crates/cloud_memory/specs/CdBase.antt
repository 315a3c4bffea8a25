-- What cd_base says, for callers.
pub use Rattle.spent_table.specs.CdBase.Lending
pub use Rattle.spent_table.specs.CdBase.Limits
pub use Rattle.spent_table.specs.CdBase.Order
pub use Rattle.spent_table.specs.CdBase.Reading
pub use Rattle.spent_table.specs.CdBase.ids
pub use Rattle.spent_table.specs.CdBase.place
pub use Rattle.spent_table.specs.CdBase.rooms
pub use Rattle.spent_table.specs.CdBase.shape

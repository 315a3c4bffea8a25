-- What cd_base says, for callers.
pub use Rattle.message_fields.specs.CdBase.Order
pub use Rattle.message_fields.specs.CdBase.ids
pub use Rattle.message_fields.specs.CdBase.place
pub use Rattle.message_fields.specs.CdBase.rooms
pub use Rattle.message_fields.specs.CdBase.shape

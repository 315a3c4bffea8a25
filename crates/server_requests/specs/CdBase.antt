-- What cd_base says, for callers.
pub use Rattle.server_commands.specs.CdBase.Lending
pub use Rattle.server_commands.specs.CdBase.Limits
pub use Rattle.server_commands.specs.CdBase.Order
pub use Rattle.server_commands.specs.CdBase.Reading
pub use Rattle.server_commands.specs.CdBase.ids
pub use Rattle.server_commands.specs.CdBase.place
pub use Rattle.server_commands.specs.CdBase.rooms
pub use Rattle.server_commands.specs.CdBase.shape

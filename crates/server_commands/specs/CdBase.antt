-- What cd_base says, for callers.
pub use Rattle.server_reads.specs.CdBase.Lending
pub use Rattle.server_reads.specs.CdBase.Limits
pub use Rattle.server_reads.specs.CdBase.Order
pub use Rattle.server_reads.specs.CdBase.Reading
pub use Rattle.server_reads.specs.CdBase.ids
pub use Rattle.server_reads.specs.CdBase.place
pub use Rattle.server_reads.specs.CdBase.rooms
pub use Rattle.server_reads.specs.CdBase.shape

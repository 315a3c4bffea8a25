-- What cd_base says, for callers.
pub use Rattle.fresh_checkpoints.specs.CdBase.ids
pub use Rattle.fresh_checkpoints.specs.CdBase.rooms

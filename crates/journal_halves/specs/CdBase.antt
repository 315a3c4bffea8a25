-- What cd_base says, for callers.
pub use Rattle.cd_edges.specs.CdBase.Limits
pub use Rattle.cd_edges.specs.CdBase.Numbers
pub use Rattle.cd_edges.specs.CdBase.Order
pub use Rattle.cd_edges.specs.CdBase.ids
pub use Rattle.cd_edges.specs.CdBase.place
pub use Rattle.cd_edges.specs.CdBase.rooms
pub use Rattle.cd_edges.specs.CdBase.shape

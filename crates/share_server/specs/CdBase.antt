-- What cd_base says, for callers.
pub use Rattle.server_requests.specs.CdBase.Order
pub use Rattle.server_requests.specs.CdBase.Reading
pub use Rattle.server_requests.specs.CdBase.ids
pub use Rattle.server_requests.specs.CdBase.place
pub use Rattle.server_requests.specs.CdBase.shape

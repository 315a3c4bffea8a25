-- What cd_base says, for callers.
pub use Rattle.session.specs.CdBase.shape

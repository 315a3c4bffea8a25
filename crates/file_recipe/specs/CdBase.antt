-- What cd_base says, for callers.
pub use Rattle.rabin_chunker.specs.CdBase.Lengths
pub use Rattle.rabin_chunker.specs.CdBase.Limits
pub use Rattle.rabin_chunker.specs.CdBase.Reading
pub use Rattle.rabin_chunker.specs.CdBase.ids
pub use Rattle.rabin_chunker.specs.CdBase.shape

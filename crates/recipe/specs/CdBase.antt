-- What cd_base says, for callers.
pub use Rattle.grammar.specs.CdBase.Lengths
pub use Rattle.grammar.specs.CdBase.Limits
pub use Rattle.grammar.specs.CdBase.Order
pub use Rattle.grammar.specs.CdBase.ids
pub use Rattle.grammar.specs.CdBase.place
pub use Rattle.grammar.specs.CdBase.shape

-- What cd_base says, for callers.
pub use Rattle.cd_base.specs.Lengths
pub use Rattle.cd_base.specs.Limits
pub use Rattle.cd_base.specs.Numbers
pub use Rattle.cd_base.specs.Order
pub use Rattle.cd_base.specs.Reading
pub use Rattle.cd_base.specs.declared.ids
pub use Rattle.cd_base.specs.declared.place
pub use Rattle.cd_base.specs.declared.rooms
pub use Rattle.cd_base.specs.declared.shape

-- What local_link says, for callers.
pub use Rattle.local_link.specs.Calls
pub use Rattle.local_link.specs.Steps
pub use Rattle.local_link.specs.Tells
pub use Rattle.local_link.specs.declared.fate
pub use Rattle.local_link.specs.declared.link
pub use Rattle.local_link.specs.declared.servers

-- What local_link says, for callers.
pub use Rattle.session_model.specs.LocalLink.Calls
pub use Rattle.session_model.specs.LocalLink.Steps
pub use Rattle.session_model.specs.LocalLink.Tells
pub use Rattle.session_model.specs.LocalLink.fate
pub use Rattle.session_model.specs.LocalLink.link
pub use Rattle.session_model.specs.LocalLink.servers

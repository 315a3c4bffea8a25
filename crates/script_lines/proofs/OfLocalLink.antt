-- What local_link has proved, for callers.
pub use Rattle.session_model.proofs.OfLocalLink.Standing

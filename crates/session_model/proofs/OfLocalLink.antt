-- What local_link has proved, for callers.
pub use Rattle.local_link.proofs.Calling
pub use Rattle.local_link.proofs.Passing
pub use Rattle.local_link.proofs.Standing

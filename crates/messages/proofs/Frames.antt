-- What frames has proved, for callers.
pub use Rattle.frames.proofs.FrameLaws
pub use Rattle.frames.proofs.StreamLaws

-- What frames has proved, for callers.
pub use Rattle.messages.proofs.Frames.FrameLaws
pub use Rattle.messages.proofs.Frames.StreamLaws

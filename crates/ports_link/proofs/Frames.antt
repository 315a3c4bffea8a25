-- What frames has proved, for callers.
pub use Rattle.user_dedup.proofs.Frames.FrameLaws
pub use Rattle.user_dedup.proofs.Frames.StreamLaws

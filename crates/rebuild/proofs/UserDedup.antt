-- What user_dedup has proved, for callers.
pub use Rattle.lane_steps.proofs.UserDedup.Pages

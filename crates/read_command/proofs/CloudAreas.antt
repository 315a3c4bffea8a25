-- What cloud_areas has proved, for callers.
pub use Rattle.cloud_areas.proofs.Numbers

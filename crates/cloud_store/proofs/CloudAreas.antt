-- What cloud_areas has proved, for callers.
pub use Rattle.checkpoints.proofs.CloudAreas.Laid

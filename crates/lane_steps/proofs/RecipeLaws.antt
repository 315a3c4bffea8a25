-- What recipe has proved, for callers.
pub use Rattle.upload_job.proofs.RecipeLaws.Written

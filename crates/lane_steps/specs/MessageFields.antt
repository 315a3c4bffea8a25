-- What message_fields says, for callers.
pub use Rattle.upload_job.specs.MessageFields.Fingerprints
pub use Rattle.upload_job.specs.MessageFields.Keys

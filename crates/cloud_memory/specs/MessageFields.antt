-- What message_fields says, for callers.
pub use Rattle.cloud_areas.specs.MessageFields.Fingerprints
pub use Rattle.cloud_areas.specs.MessageFields.Shares

-- What message_fields says, for callers.
pub use Rattle.lane_steps.specs.MessageFields.Fingerprints
pub use Rattle.lane_steps.specs.MessageFields.Keys

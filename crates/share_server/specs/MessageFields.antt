-- What message_fields says, for callers.
pub use Rattle.server_requests.specs.MessageFields.Keys

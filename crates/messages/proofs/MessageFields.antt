-- What message_fields has proved, for callers.
pub use Rattle.message_fields.proofs.ShareLaws

-- What message_fields has proved, for callers.
pub use Rattle.message_fields.proofs.FpLaws
pub use Rattle.message_fields.proofs.KeyLaws
pub use Rattle.message_fields.proofs.PartLaws
pub use Rattle.message_fields.proofs.ShareLaws

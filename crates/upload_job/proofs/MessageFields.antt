-- What message_fields has proved, for callers.
pub use Rattle.user_dedup.proofs.MessageFields.FpLaws
pub use Rattle.user_dedup.proofs.MessageFields.KeyLaws
pub use Rattle.user_dedup.proofs.MessageFields.PartLaws
pub use Rattle.user_dedup.proofs.MessageFields.ShareLaws

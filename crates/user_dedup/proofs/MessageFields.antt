-- What message_fields has proved, for callers.
pub use Rattle.journal_start.proofs.MessageFields.FpLaws
pub use Rattle.journal_start.proofs.MessageFields.KeyLaws
pub use Rattle.journal_start.proofs.MessageFields.PartLaws
pub use Rattle.journal_start.proofs.MessageFields.ShareLaws

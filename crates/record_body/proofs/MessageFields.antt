-- What message_fields has proved, for callers.
pub use Rattle.message_fields.proofs.FpLaws
pub use Rattle.message_fields.proofs.Loops
pub use Rattle.message_fields.proofs.PartLaws

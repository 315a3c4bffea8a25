-- What first_records has proved, for callers.
pub use Rattle.first_records.proofs.OneAnswer

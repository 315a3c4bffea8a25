-- What checkpoints says, for callers.
pub use Rattle.fresh_checkpoints.specs.Checkpoints.Laying
pub use Rattle.fresh_checkpoints.specs.Checkpoints.Records

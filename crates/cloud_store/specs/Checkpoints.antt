-- What checkpoints says, for callers.
pub use Rattle.checkpoints.specs.Known

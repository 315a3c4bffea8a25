-- What checkpoints says, for callers.
pub use Rattle.checkpoints.specs.CloudDisk
pub use Rattle.checkpoints.specs.Known
pub use Rattle.checkpoints.specs.Laying
pub use Rattle.checkpoints.specs.Marked
pub use Rattle.checkpoints.specs.Picking
pub use Rattle.checkpoints.specs.Ready
pub use Rattle.checkpoints.specs.Records
pub use Rattle.checkpoints.specs.Settling
pub use Rattle.checkpoints.specs.declared.whole

-- What messages says, for callers.
pub use Rattle.server_reads.specs.Messages.Answering
pub use Rattle.server_reads.specs.Messages.Parts
pub use Rattle.server_reads.specs.Messages.Replies
pub use Rattle.server_reads.specs.Messages.RequestReading
pub use Rattle.server_reads.specs.Messages.Requests
pub use Rattle.server_reads.specs.Messages.Seen
pub use Rattle.server_reads.specs.Messages.reply
pub use Rattle.server_reads.specs.Messages.request

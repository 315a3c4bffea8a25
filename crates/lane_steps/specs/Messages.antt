-- What messages says, for callers.
pub use Rattle.upload_job.specs.Messages.ReplyReading
pub use Rattle.upload_job.specs.Messages.Requests
pub use Rattle.upload_job.specs.Messages.reply
pub use Rattle.upload_job.specs.Messages.request

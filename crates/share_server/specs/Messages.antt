-- What messages says, for callers.
pub use Rattle.server_requests.specs.Messages.Answering
pub use Rattle.server_requests.specs.Messages.Parts
pub use Rattle.server_requests.specs.Messages.Replies
pub use Rattle.server_requests.specs.Messages.RequestReading
pub use Rattle.server_requests.specs.Messages.Requests
pub use Rattle.server_requests.specs.Messages.reply
pub use Rattle.server_requests.specs.Messages.request

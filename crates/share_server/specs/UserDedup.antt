-- What user_dedup says, for callers.
pub use Rattle.server_requests.specs.UserDedup.Cloud
pub use Rattle.server_requests.specs.UserDedup.Dedup
pub use Rattle.server_requests.specs.UserDedup.Exec
pub use Rattle.server_requests.specs.UserDedup.Link
pub use Rattle.server_requests.specs.UserDedup.Owning
pub use Rattle.server_requests.specs.UserDedup.Pages
pub use Rattle.server_requests.specs.UserDedup.Requests
pub use Rattle.server_requests.specs.UserDedup.Served
pub use Rattle.server_requests.specs.UserDedup.Spending
pub use Rattle.server_requests.specs.UserDedup.command
pub use Rattle.server_requests.specs.UserDedup.file_list

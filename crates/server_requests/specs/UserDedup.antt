-- What user_dedup says, for callers.
pub use Rattle.server_commands.specs.UserDedup.Cloud
pub use Rattle.server_commands.specs.UserDedup.Compact
pub use Rattle.server_commands.specs.UserDedup.Dedup
pub use Rattle.server_commands.specs.UserDedup.Exec
pub use Rattle.server_commands.specs.UserDedup.Link
pub use Rattle.server_commands.specs.UserDedup.Owning
pub use Rattle.server_commands.specs.UserDedup.Pages
pub use Rattle.server_commands.specs.UserDedup.Requests
pub use Rattle.server_commands.specs.UserDedup.Served
pub use Rattle.server_commands.specs.UserDedup.Spending
pub use Rattle.server_commands.specs.UserDedup.command
pub use Rattle.server_commands.specs.UserDedup.file_list

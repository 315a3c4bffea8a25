-- What user_dedup says, for callers.
pub use Rattle.server_reads.specs.UserDedup.Cloud
pub use Rattle.server_reads.specs.UserDedup.Compact
pub use Rattle.server_reads.specs.UserDedup.Dedup
pub use Rattle.server_reads.specs.UserDedup.Exec
pub use Rattle.server_reads.specs.UserDedup.Link
pub use Rattle.server_reads.specs.UserDedup.Owning
pub use Rattle.server_reads.specs.UserDedup.Pages
pub use Rattle.server_reads.specs.UserDedup.Requests
pub use Rattle.server_reads.specs.UserDedup.Served
pub use Rattle.server_reads.specs.UserDedup.Spending
pub use Rattle.server_reads.specs.UserDedup.command
pub use Rattle.server_reads.specs.UserDedup.file_list

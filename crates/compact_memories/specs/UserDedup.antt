-- What user_dedup says, for callers.
pub use Rattle.compact_lists.specs.UserDedup.Cloud
pub use Rattle.compact_lists.specs.UserDedup.Compact
pub use Rattle.compact_lists.specs.UserDedup.Dedup
pub use Rattle.compact_lists.specs.UserDedup.Exec
pub use Rattle.compact_lists.specs.UserDedup.Owning
pub use Rattle.compact_lists.specs.UserDedup.Pages
pub use Rattle.compact_lists.specs.UserDedup.Requests
pub use Rattle.compact_lists.specs.UserDedup.Spending
pub use Rattle.compact_lists.specs.UserDedup.Strings
pub use Rattle.compact_lists.specs.UserDedup.command
pub use Rattle.compact_lists.specs.UserDedup.file_list
pub use Rattle.compact_lists.specs.UserDedup.view

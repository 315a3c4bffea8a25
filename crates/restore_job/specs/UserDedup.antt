-- What user_dedup says, for callers.
pub use Rattle.user_dedup.specs.Cloud
pub use Rattle.user_dedup.specs.Dedup
pub use Rattle.user_dedup.specs.Exec
pub use Rattle.user_dedup.specs.Link
pub use Rattle.user_dedup.specs.Owning
pub use Rattle.user_dedup.specs.Pages
pub use Rattle.user_dedup.specs.Requests
pub use Rattle.user_dedup.specs.Served
pub use Rattle.user_dedup.specs.Spending
pub use Rattle.user_dedup.specs.declared.command
pub use Rattle.user_dedup.specs.declared.file_list
pub use Rattle.user_dedup.specs.declared.link
pub use Rattle.user_dedup.specs.declared.view

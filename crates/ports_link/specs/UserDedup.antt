-- What user_dedup says, for callers.
pub use Rattle.user_dedup.specs.Exec
pub use Rattle.user_dedup.specs.Link
pub use Rattle.user_dedup.specs.Owning
pub use Rattle.user_dedup.specs.declared.command

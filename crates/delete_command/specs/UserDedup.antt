-- What user_dedup says, for callers.
pub use Rattle.ports_link.specs.UserDedup.Exec
pub use Rattle.ports_link.specs.UserDedup.command

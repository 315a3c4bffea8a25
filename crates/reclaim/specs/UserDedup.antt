-- What user_dedup says, for callers.
pub use Rattle.compact_memories.specs.UserDedup.Compact
pub use Rattle.compact_memories.specs.UserDedup.Exec
pub use Rattle.compact_memories.specs.UserDedup.Spending
pub use Rattle.compact_memories.specs.UserDedup.command

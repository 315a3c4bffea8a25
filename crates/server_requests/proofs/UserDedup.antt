-- What user_dedup has proved, for callers.
pub use Rattle.server_commands.proofs.UserDedup.Asked
pub use Rattle.server_commands.proofs.UserDedup.CompactSound
pub use Rattle.server_commands.proofs.UserDedup.EntryLists
pub use Rattle.server_commands.proofs.UserDedup.Execs
pub use Rattle.server_commands.proofs.UserDedup.New
pub use Rattle.server_commands.proofs.UserDedup.Owned
pub use Rattle.server_commands.proofs.UserDedup.Sound
pub use Rattle.server_commands.proofs.UserDedup.Spending
pub use Rattle.server_commands.proofs.UserDedup.Suiting
pub use Rattle.server_commands.proofs.UserDedup.Views
pub use Rattle.server_commands.proofs.UserDedup.Within

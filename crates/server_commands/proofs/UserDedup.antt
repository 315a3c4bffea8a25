-- What user_dedup has proved, for callers.
pub use Rattle.server_reads.proofs.UserDedup.Asked
pub use Rattle.server_reads.proofs.UserDedup.CompactSound
pub use Rattle.server_reads.proofs.UserDedup.EntryLists
pub use Rattle.server_reads.proofs.UserDedup.Execs
pub use Rattle.server_reads.proofs.UserDedup.New
pub use Rattle.server_reads.proofs.UserDedup.Owned
pub use Rattle.server_reads.proofs.UserDedup.Sound
pub use Rattle.server_reads.proofs.UserDedup.Spending
pub use Rattle.server_reads.proofs.UserDedup.Suiting
pub use Rattle.server_reads.proofs.UserDedup.Views
pub use Rattle.server_reads.proofs.UserDedup.Within

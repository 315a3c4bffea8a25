-- What user_dedup has proved, for callers.
pub use Rattle.server_requests.proofs.UserDedup.Asked
pub use Rattle.server_requests.proofs.UserDedup.CompactSound
pub use Rattle.server_requests.proofs.UserDedup.EntryLists
pub use Rattle.server_requests.proofs.UserDedup.Execs
pub use Rattle.server_requests.proofs.UserDedup.Owned
pub use Rattle.server_requests.proofs.UserDedup.Sound
pub use Rattle.server_requests.proofs.UserDedup.Spending
pub use Rattle.server_requests.proofs.UserDedup.Views

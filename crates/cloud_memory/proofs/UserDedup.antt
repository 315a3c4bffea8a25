-- What user_dedup has proved, for callers.
pub use Rattle.cloud_areas.proofs.UserDedup.Asked
pub use Rattle.cloud_areas.proofs.UserDedup.CompactSound
pub use Rattle.cloud_areas.proofs.UserDedup.Deleting
pub use Rattle.cloud_areas.proofs.UserDedup.EntryLists
pub use Rattle.cloud_areas.proofs.UserDedup.Execs
pub use Rattle.cloud_areas.proofs.UserDedup.Filtered
pub use Rattle.cloud_areas.proofs.UserDedup.New
pub use Rattle.cloud_areas.proofs.UserDedup.Owned
pub use Rattle.cloud_areas.proofs.UserDedup.Pages
pub use Rattle.cloud_areas.proofs.UserDedup.Sound
pub use Rattle.cloud_areas.proofs.UserDedup.Spending
pub use Rattle.cloud_areas.proofs.UserDedup.Suiting
pub use Rattle.cloud_areas.proofs.UserDedup.Views
pub use Rattle.cloud_areas.proofs.UserDedup.Within

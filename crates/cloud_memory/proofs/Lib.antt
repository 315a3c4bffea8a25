pub mod Adding
mod Answering
pub mod Beginning
pub mod CloudAreas
pub mod CommitLaw
pub mod DeleteLaw
pub mod EndsLaw
mod Entering
pub mod Few
pub mod Fitting
pub mod FullRooms
mod Holding
pub mod KeyCounts
pub mod Keys
pub mod Lists
mod LiveSlots
pub mod Naming
pub mod Next
pub mod PlacingLaw
pub mod PutLaw
mod PutLength
pub mod Puts
pub mod Recording
pub mod Taking
mod Unowned
mod Walking
pub mod UserDedup
pub mod FileIndexLaws
pub mod ShareIndexLaws
pub mod RecordBody
pub mod ContainerLog
pub mod Recipe
pub mod CdBase
pub mod JournalStart

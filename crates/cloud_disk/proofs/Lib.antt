pub mod Blobs
pub mod Holding
pub mod Both
pub mod Ends
pub mod Standing
pub mod Adding
mod Fronts
pub mod Grown
pub mod CommitJournal
pub mod RecordBody
pub mod JournalStart
pub mod CloudAreas
pub mod JournalHalves
pub mod CdEdges
pub mod UserDedup
pub mod ContainerLog

pub mod Acknowledged
pub mod Armings
pub mod ShareServer
pub mod Committed
pub mod Counts
mod Examples
pub mod Faults
pub mod Filled
pub mod Growing
pub mod Jobs
mod Lasting
pub mod Lines
pub mod OfLocalLink
pub mod Names
pub mod Parts
pub mod Private
pub mod Ranged
pub mod Refilled
pub mod Roomy
pub mod Seen
mod Settled
pub mod Stopped
pub mod Unmoved
pub mod With
pub mod RestoreJob
pub mod UserDedup
pub mod CdEdges
pub mod RebuildLaws
pub mod SubsetRestore

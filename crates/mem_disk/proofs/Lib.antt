mod Back
pub mod Copied
mod DiskSteps
pub mod Filled
mod Joined
pub mod Noted
mod Reading
pub mod CdEdges

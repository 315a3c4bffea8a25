mod Appending
mod Areas
mod Bounds
mod ByteLaws
mod Copied
mod Executed
mod Headers
pub mod NoCommands
pub mod Openings
mod Peers
mod Refusing
pub mod CloudOpening
pub mod UserDedup
pub mod Messages
pub mod Recipe
pub mod CdEdges
pub mod CommitJournal

pub mod Asks
pub mod CdEdges
pub mod Deleted
pub mod Lines
pub mod PortsLink
pub mod Steps
pub mod UserDedup
pub mod Writing

pub mod AuditBase
pub mod CloudMemory
pub mod FileIndex
pub mod Holding
pub mod Reading
pub mod ShareIndex
pub mod Steps

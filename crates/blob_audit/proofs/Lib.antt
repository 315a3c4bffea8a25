pub mod Compared
pub mod Hashing
pub mod Joining
pub mod Listed
pub mod Ordered
pub mod Owners
pub mod Windowed
pub mod AuditBase

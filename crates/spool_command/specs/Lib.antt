pub mod BackupCommand
pub mod Going
pub mod Noted
pub mod Resumed
pub mod Spooled
pub mod Writing

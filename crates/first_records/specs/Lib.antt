pub mod Judging
pub mod Limits
pub mod RecordBody
pub mod Steps

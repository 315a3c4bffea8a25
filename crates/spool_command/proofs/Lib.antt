pub mod Notes
pub mod Joining
pub mod Ends
pub mod Carried
pub mod Silent
pub mod Kept

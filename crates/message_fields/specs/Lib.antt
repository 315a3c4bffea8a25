pub mod CdBase
pub mod Fingerprints
pub mod Flags
pub mod Grammar
pub mod Keys
pub mod Parts
pub mod Readings
pub mod Shares

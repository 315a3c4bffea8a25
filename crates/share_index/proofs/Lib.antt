pub mod SumBelow
pub mod Counting
pub mod Owning
pub mod Placing
pub mod Indexing
pub mod Scanning
pub mod Holders
pub mod Releasing

pub mod CompactFits
pub mod CompactRoom
pub mod Counts
pub mod Lengths
pub mod Passed
pub mod MigrationModel
pub mod CompactLists

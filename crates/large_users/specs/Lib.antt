pub mod CompactLists
pub mod Counting
pub mod Large
pub mod MigrationModel

pub mod CdBase
pub mod Grammar
pub mod MessageFields
pub mod Ranges
pub mod Reading
pub mod Spelling

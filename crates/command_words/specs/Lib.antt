pub mod Asked
pub mod CdBase
pub mod Commands
pub mod JournalStart
pub mod Reading
pub mod Views

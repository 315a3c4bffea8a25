pub mod Begins
pub mod Clouds
pub mod Links
pub mod ScriptLines
pub mod SessionModel
pub mod Sessions
pub mod Whole

pub mod Audited
pub mod Checked
pub mod CommandCloud
pub mod Said
pub mod Source
pub mod Steps
pub mod Tables

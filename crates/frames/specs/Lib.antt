pub mod Frames
pub mod Steps
pub mod Standing
pub mod Found

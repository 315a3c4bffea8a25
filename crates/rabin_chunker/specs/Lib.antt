pub mod CdBase
pub mod Cuts
pub mod Lanes
pub mod Reading
pub mod Rolling
pub mod Rule
pub mod Walk
pub mod Window

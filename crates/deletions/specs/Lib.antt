pub mod CaontRs
pub mod CdBase
pub mod Frames
pub mod Messages
pub mod Replies
pub mod Transcript

mod Sums
mod Adding
pub mod CdBase

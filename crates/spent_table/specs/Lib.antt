pub mod CdBase
pub mod Spending

pub mod Session
pub mod Transcript
pub mod UploadJob
pub mod Worlds

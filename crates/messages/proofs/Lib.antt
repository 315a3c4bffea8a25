pub mod ByKind
pub mod RequestLaws
pub mod ReplyLaws
pub mod Frames
pub mod MessageFields

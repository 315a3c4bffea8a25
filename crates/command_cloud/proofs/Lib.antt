pub mod Completing
mod Reopened
pub mod Standing
pub mod Written
pub mod ServeCommand
pub mod Transcript
pub mod CdEdges

pub mod Completing
pub mod Ends
pub mod ServeCommand

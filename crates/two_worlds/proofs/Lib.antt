pub mod Alone
mod Examples
pub mod Lanes
pub mod Lines
pub mod Numbers
pub mod Once
pub mod OnceLines
pub mod Own
pub mod Peers
pub mod Reading
pub mod Rebuilt
pub mod Refilled
pub mod Restored
pub mod Rules
pub mod Told
pub mod Turns
pub mod Two

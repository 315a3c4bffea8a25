mod Certifying
pub mod Closing
pub mod Completing
mod Dispatching
mod Generating
mod Migrating
mod Placing
mod ReadClosing
mod Reclaiming
mod Spooling
pub mod Texts
pub mod Unopened

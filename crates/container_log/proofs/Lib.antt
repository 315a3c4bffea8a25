pub mod Agreeing
pub mod Blobs
pub mod Laid
pub mod Least
pub mod Rooms
pub mod Staged
pub mod Turning

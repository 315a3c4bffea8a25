pub mod Fits
pub mod Judged
pub mod OneAnswer
pub mod Rooms
pub mod RecordBody

pub mod CdBase
pub mod Clouds
pub mod CloudsRead
pub mod Counts
pub mod Shelves
pub mod Streams
pub mod Told

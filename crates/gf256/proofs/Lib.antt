pub mod Bilinear
pub mod Laws
pub mod Tables
pub mod Lanes
pub mod Blocks
pub mod Standard

pub mod Cipher
pub mod Gf256
pub mod Mask
pub mod Planes

pub mod CdBase
pub mod Fields
pub mod Hexadecimal
pub mod Numerals
pub mod Readers
pub mod Words

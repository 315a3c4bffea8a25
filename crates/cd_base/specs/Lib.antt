pub mod Lending
pub mod Lengths
pub mod Limits
pub mod Numbers
pub mod Order
pub mod Reading

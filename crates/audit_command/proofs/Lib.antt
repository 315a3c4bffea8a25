pub mod Counting
pub mod Completing
pub mod Ends
pub mod Written

pub mod Ends
pub mod Firsts
pub mod Steps
pub mod Unopened

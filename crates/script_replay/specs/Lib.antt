pub mod Answering
pub mod Endings
pub mod First
pub mod Written

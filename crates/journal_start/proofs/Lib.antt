pub mod Lawful
pub mod Whole
pub mod Lengths
pub mod Written
pub mod Grammar
pub mod MessageFields

pub mod FirstRecords
pub mod Holding
pub mod Lawful
pub mod Leaving
pub mod Standing

pub mod Apart
mod Begun
pub mod Behind
pub mod Counting
pub mod Ends
pub mod Entries
mod Headers
pub mod Laid
pub mod Lists
pub mod Numbers
pub mod Once
pub mod OneChain
mod OneMore
pub mod Placed
pub mod Room
mod Rows
mod Settled
mod Spends
pub mod Summing
pub mod UserDedup
pub mod RecordBody
pub mod ContainerLog
pub mod JournalStart

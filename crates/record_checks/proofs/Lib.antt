pub mod CloudAreas
pub mod MemoryProofs
pub mod Faults
pub mod Judged
pub mod KeptWalking
mod Naming
pub mod OneAnswer
mod Overlaying
pub mod Rooming
pub mod Walking
pub mod CloudMemoryLaws
pub mod UserDedup
pub mod FileIndex
pub mod ShareIndex
pub mod RecordBody
pub mod Recipe
pub mod ContainerLog
pub mod FittingItems

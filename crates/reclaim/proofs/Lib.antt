mod Ending
mod Going
mod Summed
mod Unlike
mod Whole
pub mod CdEdges

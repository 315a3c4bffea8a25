pub mod PartLaws
pub mod Loops
pub mod FpLaws
pub mod ShareLaws
pub mod KeyLaws
pub mod Grammar

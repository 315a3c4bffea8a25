pub mod Opening
pub mod Package
pub mod ReedSolomon

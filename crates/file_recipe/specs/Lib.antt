pub mod CaontRs
pub mod CdBase
pub mod Clouds
pub mod FileRecipe
pub mod Progress
pub mod ReedSolomon

pub mod Secrets
pub mod Recipes
pub mod Shares
pub mod Parting
pub mod CaontRs

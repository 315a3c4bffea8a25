pub mod CloudSteps
pub mod CloudsAt
pub mod Copied

pub mod Numbered
pub mod LaneSteps

pub mod Jobs
pub mod LaneSteps

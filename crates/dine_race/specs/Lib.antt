pub mod BoundSteps
pub mod StepKinds
pub mod Races
pub mod Report
pub mod Runs
pub mod Runners
pub mod Works

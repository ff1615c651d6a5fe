pub mod PartSteps

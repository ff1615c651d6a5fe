pub mod FrontSteps

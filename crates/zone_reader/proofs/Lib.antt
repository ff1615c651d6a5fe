pub mod ZoneSteps

pub mod DeviceSteps

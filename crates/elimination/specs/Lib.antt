pub mod StepEntries
pub mod Stops
pub mod Taken
pub mod Finish
pub mod RowSteps
pub mod FrontSteps
pub mod Quotients

pub mod FirstRounding
pub mod Fronts
pub mod Forms
pub mod CleanSteps

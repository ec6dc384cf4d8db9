pub mod ListEndings
pub mod RowsSteps
pub mod RowsLaws
pub mod Sizes
pub mod Bounds
pub mod Sums
pub mod Parts

pub mod Reaches
pub mod UpperSums
pub mod RowReaches
pub mod Widths
pub mod Bounds
pub mod Decisions

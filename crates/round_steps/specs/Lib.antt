pub mod Points
pub mod Limits
pub mod Shifts
pub mod Counts
pub mod Steps
pub mod Runs

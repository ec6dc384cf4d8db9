pub mod Runs
pub mod Certified
pub mod FixSays

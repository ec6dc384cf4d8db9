pub mod List
pub mod Orbit
pub mod ArcLines
pub mod Baselines
pub mod OutcomeText
pub mod VerdictText
pub mod Residuals

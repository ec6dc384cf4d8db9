pub mod Tracks
pub mod Stands
pub mod Walks
pub mod PairRules
pub mod Trials

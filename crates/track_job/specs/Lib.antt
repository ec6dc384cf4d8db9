pub mod TrackOutcomes
pub mod TrackJobs
pub mod CheckJobs
pub mod TrackTexts

pub mod FixJobs
pub mod ArcJobs

pub mod Commands
pub mod Jobs
pub mod Runs
pub mod Calls
pub mod Agreements
pub mod PrintedVectors
pub mod PrintedTracks
pub mod PrintedArcs

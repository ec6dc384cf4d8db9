pub mod CommandLaws
pub mod Completes
pub mod Files
pub mod CallLaws
pub mod Agreements
pub mod PrintedVectors
pub mod PrintedTracks
pub mod PrintedArcs

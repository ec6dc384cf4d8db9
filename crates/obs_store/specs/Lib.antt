pub mod Kinds
pub mod Missing
pub mod Satellites
pub mod Stored
pub mod Epochs
pub mod Seen
pub mod Counts
pub mod Locks

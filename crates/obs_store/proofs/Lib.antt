pub mod EpochsLaws
pub mod SeenLaws
pub mod StoredLaws
pub mod LockLaws

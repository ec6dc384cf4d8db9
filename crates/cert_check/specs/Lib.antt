pub mod SameTails
pub mod Verdicts
pub mod Settled
pub mod RowDecisions
pub mod Visits

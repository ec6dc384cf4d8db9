pub mod Profile
pub mod SatNumbers
pub mod SatNames
pub mod EpochTag
pub mod EpochLines
pub mod Rows
pub mod Obs2Rules
pub mod Obs2Form

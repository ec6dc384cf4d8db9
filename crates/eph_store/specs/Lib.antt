pub mod Decimals
pub mod Profile
pub mod Records
pub mod Chosen
pub mod File

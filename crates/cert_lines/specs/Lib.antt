pub mod Versions
pub mod Places
pub mod Lines
pub mod Forms
pub mod Lengths
pub mod Limits
pub mod TailForms

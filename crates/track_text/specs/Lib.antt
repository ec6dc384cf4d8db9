pub mod TailForms
pub mod Rules
pub mod Spelling
pub mod Lengths

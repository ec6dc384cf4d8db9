pub mod Numbers
pub mod Settings
pub mod Parts
pub mod Words
pub mod Commands
pub mod Split

mod Progress
mod Points
mod Smalls
mod Held
mod Steps
mod Examples
mod Amounts
pub mod TextLengths
mod DistanceLaws
mod Measures
pub mod SignalSmalls
mod Solutions
mod Normals
mod RecordLengths
mod RecordLaws

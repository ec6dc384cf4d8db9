pub mod SameArcs
pub mod Growth
pub mod Marks
pub mod Steps
pub mod Ends
pub mod StandsLaws
pub mod FrontLaws
pub mod KeptArcs
mod PairSessions
pub mod TriedArcs
mod Outcomes

pub mod Answers
pub mod FileRules
pub mod ScreenedArcs
pub mod Origins
pub mod Outcomes

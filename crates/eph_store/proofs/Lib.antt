pub mod Scales
pub mod Signs
pub mod ChosenLaws
pub mod ProfileLaws
pub mod FitLaws

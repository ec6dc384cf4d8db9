mod ExponentLaws
pub mod FrontLaws
mod FirstRoundingLaws
mod FrontKept
mod RowFrontLaws
mod LowerLaws
pub mod Exponents
pub mod OneForm
pub mod ZeroForms

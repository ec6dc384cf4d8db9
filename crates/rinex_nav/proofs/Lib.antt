pub mod Moments
pub mod Steps
pub mod FormLaws
pub mod FormTook
pub mod FormPlaces
pub mod FitOnce

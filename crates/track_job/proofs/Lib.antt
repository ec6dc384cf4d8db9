pub mod StandsLaws
pub mod Certified
pub mod TrackSays
mod PairPlaces

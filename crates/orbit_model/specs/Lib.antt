pub mod Elements
pub mod Solution
pub mod Places
pub mod SeenPlaces

pub mod FormShapes
pub mod StepOrder
pub mod FormLaws
pub mod PlaceLaws
pub mod StoredPlaces
pub mod FloatLaws

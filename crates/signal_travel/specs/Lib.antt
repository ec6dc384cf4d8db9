pub mod Boxes
pub mod Directions
pub mod Grid
pub mod SeenAfter
pub mod VectorBoxes

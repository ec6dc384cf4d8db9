pub mod Curvatures
pub mod Reaches
pub mod VectorBounds
pub mod PairBounds

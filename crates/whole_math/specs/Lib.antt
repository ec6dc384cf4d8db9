pub mod Rounding
pub mod Sums
pub mod Bounds
pub mod Vectors
pub mod Rational
pub mod Over
pub mod Boxes
pub mod Spread

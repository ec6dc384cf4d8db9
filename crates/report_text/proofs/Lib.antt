pub mod OrbitLaws
mod Texts
pub mod Sums

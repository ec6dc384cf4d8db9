pub mod Factors
pub mod Kept
pub mod Forms
pub mod ReportedRefusals
pub mod FloatPoint

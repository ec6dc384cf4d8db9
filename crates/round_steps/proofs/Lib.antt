pub mod StepLaws
pub mod ShiftLaws
pub mod RunLaws
pub mod UsedShifts
pub mod SameRules
pub mod FrontNumbers
pub mod OneEnd

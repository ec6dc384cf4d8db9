pub mod Words
pub mod SmallEntries
pub mod NewEntries
pub mod StepLaws
pub mod StoredLaws
pub mod TableLaws
pub mod KeptLaws
pub mod FinishLaws
pub mod NewRows
mod ProductUnits
pub mod RowStepLaws
pub mod FrontStepLaws
pub mod RowWords
mod QuotientSteps

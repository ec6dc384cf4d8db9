pub mod LineRuleLaws
pub mod Stops
pub mod ColumnLaws
pub mod HeadLaws
pub mod TakenLines
pub mod Letters
pub mod OwnFlawLaws
pub mod TextLines

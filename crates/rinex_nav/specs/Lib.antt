pub mod FirstLine
pub mod RecordLines
pub mod NavRules
pub mod NavForm
pub mod GpsForm

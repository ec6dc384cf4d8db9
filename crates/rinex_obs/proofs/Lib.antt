pub mod Headers
pub mod FormLaws
pub mod FormTook
pub mod ListedTypes
pub mod FormPlaces
pub mod Feeds
pub mod Admits

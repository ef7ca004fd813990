pub mod Items
pub mod Occurrences
pub mod Added

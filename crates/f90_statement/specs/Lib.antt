pub mod Contents
pub mod Fronts
pub mod Kinds
pub mod Reading
pub mod Views
pub mod items

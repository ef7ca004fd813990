pub mod Directions
pub mod Found
pub mod FoundNames
pub mod Kinds
pub mod Known
pub mod declarations

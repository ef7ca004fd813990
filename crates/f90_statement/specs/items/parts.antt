pub mod Fronts
pub mod Variables
pub mod Bounds

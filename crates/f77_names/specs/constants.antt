pub mod Bounds
pub mod Constants
pub mod Declarations
pub mod Steps

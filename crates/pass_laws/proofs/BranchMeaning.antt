pub mod Ways
pub mod Flat
pub mod Beside
pub mod Loops
pub mod LastValues
pub mod Bounds
pub mod Meaning

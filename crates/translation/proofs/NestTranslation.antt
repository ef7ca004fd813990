pub mod Cleaned
pub mod Bounds
pub mod Arrays
pub mod Prepared
pub mod Converted
pub mod Translation

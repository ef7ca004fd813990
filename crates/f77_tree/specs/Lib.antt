pub mod Parts
pub mod Resolved
pub mod Rests
